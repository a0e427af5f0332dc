-- The one place says so.
use Rattle.std.proofs.Common.{ap, ◌∙◌}
use Rattle.std.specs.Option.{is_some}
use Rattle.seq.specs.Distance.{near}
use Rattle.seq.proofs.Signed.{by-some}
use Rattle.seq.proofs.Seq.is_near.Goals as goal

pub returns : goal.returns
unfolding near
returns c = c.is_some.ensures ∙ ap is_some c.distance.ensures ∙ by-some _
