-- By what the line reads as: a refusal is bad, and a message is found by what it carries.
use Rattle.comparing.proofs.messages.find_reading.Goals as goal

pub returns-in-Ok : goal.returns-in-Ok
returns-in-Ok c = simp (c.in-Ok.is, c.find_carried.ensures, c.from_link_msg.ensures)
