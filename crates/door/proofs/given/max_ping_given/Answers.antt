-- By the flag.
use Rattle.std.specs.Prelude.{◌≡◌, refl, Bool, true, false, ℕ}
use Rattle.std.specs.Bool.{then_some}
use Rattle.std.proofs.Common.{◌∙◌}
use Rattle.door.specs.Given.{max_ping_given}
use Rattle.door.proofs.given.max_ping_given.Goals as goal

where-set : (b : Bool) (v : ℕ) → then_some b v ≡ max_ping_given b v
where-set true v = refl
where-set false v = refl

pub returns : goal.returns
returns c = c.then_some.ensures ∙ where-set c.args.limited c.args.max_ping
