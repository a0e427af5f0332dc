-- No digit takes the number past a piece's bytes.
use Rattle.std.proofs.Common.{◌≤◌}
use Rattle.cuttings.proofs.number.Given as goal

abbrev pub invariant-loop-b : goal.invariant-loop-b
invariant-loop-b l = l.n ≤ 8192
