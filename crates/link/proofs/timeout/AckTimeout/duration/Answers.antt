-- Factor by factor, within the maximum at each, and then the minimum. A product that stays at the largest number of 64 bits is past every maximum.
use Rattle.std.specs.Prelude.{◌≡◌, Bool, cond, ℕ, ◌-◌, ◌*◌, ◌^◌, ◌<◌, min, max}
use Rattle.std.proofs.Common.{sym, ap, ◌∙◌, arith}
use Rattle.link.specs.declared.timeout.AckTimeout.{AckTimeout}
use Rattle.link.specs.Timeout.{duration_of, duration-steps}
use Rattle.link.proofs.timeout.AckTimeout.duration.Goals as goal

within : (p most : ℕ) → most < 2 ^ 64 → min (min p (2 ^ 64 - 1)) most ≡ min p most
within p most h = omega arith

turned : (m n : ℕ) → max m n ≡ max n m
turned m n = omega arith

bounded_steps : (t : AckTimeout) (roundtrip : ℕ) (resent unreliable : Bool) → t.max < 2 ^ 64
    → max (min (min (min (min (min (min (roundtrip * t.roundtrip_factor) (2 ^ 64 - 1)) t.max * cond resent t.resent_factor 1) (2 ^ 64 - 1)) t.max * cond unreliable t.unreliable_factor 1) (2 ^ 64 - 1)) t.max) t.min
    ≡ duration_of t roundtrip resent unreliable
bounded_steps t roundtrip resent unreliable fits =
    let a = roundtrip * t.roundtrip_factor in
    let r = cond resent t.resent_factor 1 in
    let u = cond unreliable t.unreliable_factor 1 in
    let first = within a t.max fits in
    let second = ap (λ (n : ℕ). min (min (n * r) (2 ^ 64 - 1)) t.max) first ∙ within (min a t.max * r) t.max fits in
    let third = ap (λ (n : ℕ). min (min (n * u) (2 ^ 64 - 1)) t.max) second ∙ within (min (min a t.max * r) t.max * u) t.max fits in
    ap (λ (n : ℕ). max n t.min) third
    ∙ turned (min (min (min a t.max * r) t.max * u) t.max) t.min
    ∙ sym (duration-steps t roundtrip resent unreliable fits)

pub returns : goal.returns
returns c = let a = c.args in
    simp (c.max.ensures, c.min-product.ensures, c.saturating_mul-3.ensures, c.min-2.ensures, c.saturating_mul-2.ensures, c.min.ensures, c.saturating_mul.ensures, c.factor_if.ensures, c.factor_if-2.ensures)
    (bounded_steps a.self a.roundtrip a.resent a.unreliable (omega arith))
