-- By what is waited for: a frame is found by what it reads as, a payload by whether it is one.
use Rattle.comparing.specs.Messages.{line_found}
use Rattle.comparing.proofs.messages.read_line.Goals as goal

pub returns-in-None : goal.returns-in-None
unfolding line_found
returns-in-None c = simp (c.in-None.is, c.find_reading.ensures, c.read_frame.ensures)

pub returns-in-Some : goal.returns-in-Some
unfolding line_found
returns-in-Some c = simp (c.in-Some.is, c.find_payload.ensures)
