-- The first number, by its promise; a number taken by 64 is below 64.
use native.Mathlib.Omega.{arith}
use Rattle.sending_in_place.proofs.table.first_cell.Goals as goal

pub returns : goal.returns
returns c = record { value = simp c.sub-first.ensures; upper_bound = omega arith }
