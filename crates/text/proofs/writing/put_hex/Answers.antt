-- The pair is put.
use Rattle.text.proofs.writing.put_hex.Goals as goal

pub returns : goal.returns
returns c = simp (c.hex_digit.ensures, c.hex_digit-2.ensures) at c.put.ensures
