-- The sum wraps as `plus` does.
use Rattle.std.proofs.Common.{refl}
use Rattle.seq.specs.Numbers.{plus}
use Rattle.seq.proofs.Seq.add.Goals as goal

pub returns : goal.returns
unfolding plus
returns c = refl
