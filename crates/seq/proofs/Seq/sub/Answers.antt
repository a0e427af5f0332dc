-- The difference wraps as `minus` does.
use Rattle.std.proofs.Common.{refl}
use Rattle.seq.specs.Numbers.{minus}
use Rattle.seq.proofs.Seq.sub.Goals as goal

pub returns : goal.returns
unfolding minus
returns c = refl
