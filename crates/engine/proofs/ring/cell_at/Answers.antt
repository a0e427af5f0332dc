-- A remainder is below what it is taken by.
use Rattle.std.proofs.Common.{mod-lt, arith}
use Rattle.engine.proofs.ring.cell_at.Goals as goal

pub overflow_cast-result : goal.overflow_cast-result
overflow_cast-result c = omega (arith, mod-lt c.args.seq.0 c.requires)
