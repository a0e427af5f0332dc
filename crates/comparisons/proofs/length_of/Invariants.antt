-- No digit takes the number past a recording's bytes.
use Rattle.std.proofs.Common.{◌≤◌}
use Rattle.comparisons.proofs.length_of.Given as goal

abbrev pub invariant-loop-b : goal.invariant-loop-b
invariant-loop-b l = l.n ≤ 24576
