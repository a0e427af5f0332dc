-- 2^32 − 1 is one before 0.
use Rattle.std.proofs.Common.{rules}
use Rattle.seq.specs.Numbers.{minus}
use Rattle.seq.proofs.minus_one.Goals as goal

pub returns : goal.returns
unfolding minus
returns c = search rules
