-- The number picks its row of the table; past the rows it names none.
use Rattle.std.specs.Prelude.{None}
use mathlib.Core.Path.{sym}
use native.Mathlib.Omega.{arith}
use lib.ListN.{get_or-eq_default}
use Rattle.door.specs.Messages.{blocks_given, block_given}
use Rattle.door.proofs.messages.block_given.Goals as goal

pub returns-in-0 : goal.returns-in-0
unfolding block_given
returns-in-0 c = simp c.in-0.is

pub returns-in-1 : goal.returns-in-1
unfolding block_given
returns-in-1 c = simp c.in-1.is

pub returns-in_default : goal.returns-in_default
unfolding block_given
returns-in_default c = sym (get_or-eq_default blocks_given None {n = c.args.number} (omega arith))
