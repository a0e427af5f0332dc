-- By the status.
use Rattle.words.proofs.packet.flight_of.Goals as goal

pub returns-in-Received : goal.returns-in-Received
returns-in-Received c = simp c.in-Received.is c.new.ensures

pub returns-in-ResendQueued : goal.returns-in-ResendQueued
returns-in-ResendQueued c = simp c.in-ResendQueued.is c.new-in-ResendQueued.ensures
