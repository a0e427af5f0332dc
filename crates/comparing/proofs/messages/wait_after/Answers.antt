-- By what was found: the line after a Data's frame is its payload, and any other line is a frame.
use Rattle.comparing.proofs.messages.wait_after.Goals as goal

pub returns-in-Awaits : goal.returns-in-Awaits
returns-in-Awaits c = simp c.in-Awaits.is
