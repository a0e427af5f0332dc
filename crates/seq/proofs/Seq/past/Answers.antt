-- What the one place tells where it isn't negative, else 2^30.
use Rattle.std.proofs.Common.{ℤ, nat_abs, sym, ap, ◌∙◌}
use mathlib.Core.Path.{subst}
use Rattle.std.specs.Result.{OkIff}
use Rattle.std.specs.Int.{FitsUnsignedBits}
use Rattle.seq.specs.Distance.{past_as, past, by-small}
use Rattle.seq.proofs.Signed.{read_back, past_read, told-small}
use Rattle.seq.proofs.Seq.past.Goals as goal

pub returns-in-Some : goal.returns-in-Some
unfolding past
returns-in-Some c = let a = c.args in
    let d = c.in-Some.d in
    let e = sym c.distance.ensures ∙ c.in-Some.is in
    let says = subst (λ (z : ℤ). OkIff c.try_from.result (FitsUnsignedBits 32 z) (nat_abs z)) (read_back a.self.0 a.other.0 d e) c.try_from.ensures in
    c.unwrap_or.ensures ∙ past_read d c.try_from.result (told-small d (by-small a.self.0 a.other.0 d e)) says ∙ sym (ap past_as e)

pub returns-in-None : goal.returns-in-None
unfolding past
returns-in-None c = ap past_as (sym c.in-None.is ∙ c.distance.ensures)
