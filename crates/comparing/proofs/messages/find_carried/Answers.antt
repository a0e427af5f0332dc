-- By what the message carries: one with a number is found by its kind, and any other passes.
use Rattle.comparing.proofs.messages.find_carried.Goals as goal

pub returns-in-Some : goal.returns-in-Some
returns-in-Some c = simp (c.in-Some.is, c.find_reliable.ensures)
