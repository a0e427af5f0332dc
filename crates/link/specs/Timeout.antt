-- Document 02, [1]: "round trip times the round-trip factor, times the resent factor if resent, times the unreliable factor if the
-- host says so, clamped to a minimum and a maximum. Factors are 1 to 1,000, minimum at most maximum, both at most 2^56. A product
-- too large for 64 bits counts as the maximum". Over whole numbers; the code never makes a product that passes 64 bits. Assumes nothing.
use Rattle.std.specs.Prelude.{◌≡◌, Bool, true, cond, ◌&&◌, ℕ, zero, suc, ◌*◌, ◌/◌, ◌^◌, ◌≤◌, ◌<◌, min, max, leb, ltb}
use Rattle.std.proofs.Common.{sym, ap, ◌∙◌, le_refl, le_trans, le_of_lt, mul-zero, mul-le-mul_right, le-mul_of_pos_right, div-lt_iff_lt-mul, le-div_iff_mul-le, arith, leb-true, leb-false, ltb-false}
use Rattle.std.proofs.Math.Nat.{min-le_left, min-le_right, min-eq_left, min-eq_right, le-min, le-max_left, le-max_right, max-le}
use borrow.Table.Steps.{cases}
use Rattle.refusal.specs.Tests.{split}
use Rattle.link.specs.declared.timeout.AckTimeout.{AckTimeout}
use Rattle.link.specs.Sizes.{MAX_TIME, MAX_FACTOR}

-- "Factors are 1 to 1,000"
unfoldable pub factor_ok : ℕ → Bool
factor_ok factor = leb 1 factor && leb factor MAX_FACTOR

-- not "bad factors or bounds, a bound above 2^56 among them" (21)
unfoldable pub timeout_within : AckTimeout → Bool
unfolding factor_ok
timeout_within t =
    factor_ok t.roundtrip_factor
    && (factor_ok t.resent_factor
    && (factor_ok t.unreliable_factor && (leb t.min t.max && (leb t.min MAX_TIME && leb t.max MAX_TIME))))

-- "round trip times the round-trip factor, times the resent factor if resent, times the unreliable factor if the host says so"
abbrev pub product : AckTimeout → (roundtrip : ℕ) (resent unreliable : Bool) → ℕ
product t roundtrip resent unreliable = roundtrip * t.roundtrip_factor * cond resent t.resent_factor 1 * cond unreliable t.unreliable_factor 1

-- "A product too large for 64 bits counts as the maximum"
abbrev pub counted : (product most : ℕ) → ℕ
counted product most = cond (ltb product (2 ^ 64)) product most

-- "clamped to a minimum and a maximum"
abbrev pub clamped : (least most n : ℕ) → ℕ
clamped least most n = max least (min n most)

unfoldable pub duration_of : AckTimeout → (roundtrip : ℕ) (resent unreliable : Bool) → ℕ
duration_of t roundtrip resent unreliable = clamped t.min t.max (counted (product t roundtrip resent unreliable) t.max)

-- ---- laws

-- a product is made only where it fits, and so is no more than the bound; else it is more
pub times-fits : (a factor most : ℕ) → 0 < factor → a ≤ most / factor → a * factor ≤ most
times-fits a factor most some h = (le-div_iff_mul-le some).0 h

pub times-over : (a factor most : ℕ) → 0 < factor → most / factor < a → most ≤ a * factor
times-over a factor most some h = le_of_lt ((div-lt_iff_lt-mul some).0 h)

-- the bound that is kept to at each factor is kept to at the last
pub bound-again : (a factor most : ℕ) → min (min a most * factor) most ≡ min (a * factor) most
bound-again a zero most = ap (λ n. min n most) (mul-zero (min a most) ∙ sym (mul-zero a))
bound-again a (suc f) most =
    cases (leb a most)
    (λ t. ap (λ n. min (n * suc f) most) (min-eq_left (leb-true a most t)))
    (λ t.
    let more : most ≤ a = omega (arith, leb-false a most t) in
    let grown : most ≤ most * suc f = le-mul_of_pos_right most (omega arith) in
    ap (λ n. min (n * suc f) most) (min-eq_right more) ∙ min-eq_right grown ∙ sym (min-eq_right (le_trans grown (mul-le-mul_right (suc f) more))))

-- with a maximum of 64 bits a product that passes them is past it: whole numbers, clamped
pub duration-whole : (t : AckTimeout) (roundtrip : ℕ) (resent unreliable : Bool) → t.max < 2 ^ 64
    → duration_of t roundtrip resent unreliable ≡ clamped t.min t.max (product t roundtrip resent unreliable)
unfolding duration_of
duration-whole t roundtrip resent unreliable fits =
    let p = product t roundtrip resent unreliable in
    cases (ltb p (2 ^ 64))
    (λ u. simp u)
    (λ u.
    let past : t.max ≤ p = omega (arith, ltb-false p (2 ^ 64) u) in
    simp u (ap (max t.min) (min-eq_right (le_refl t.max) ∙ sym (min-eq_right past))))

-- .. factor by factor, within the maximum at each
pub duration-steps : (t : AckTimeout) (roundtrip : ℕ) (resent unreliable : Bool) → t.max < 2 ^ 64
    → duration_of t roundtrip resent unreliable
    ≡ max t.min (min (min (min (roundtrip * t.roundtrip_factor) t.max * cond resent t.resent_factor 1) t.max * cond unreliable t.unreliable_factor 1) t.max)
duration-steps t roundtrip resent unreliable fits =
    let a = roundtrip * t.roundtrip_factor in
    let r = cond resent t.resent_factor 1 in
    let u = cond unreliable t.unreliable_factor 1 in
    duration-whole t roundtrip resent unreliable fits
    ∙ sym (ap (max t.min) (ap (λ n. min (n * u) t.max) (bound-again a r t.max) ∙ bound-again (a * r) u t.max))

-- what settings within their sizes say of the bounds
pub record Bounded (t : AckTimeout) : Type 0 where
  pub ordered : t.min ≤ t.max
  pub within : t.max ≤ MAX_TIME

pub bounded : (t : AckTimeout) → timeout_within t ≡ true → Bounded t
unfolding timeout_within
bounded t e =
    let e1 = split (factor_ok t.roundtrip_factor) _ e in
    let e2 = split (factor_ok t.resent_factor) _ e1.1 in
    let e3 = split (factor_ok t.unreliable_factor) _ e2.1 in
    let e4 = split (leb t.min t.max) _ e3.1 in
    let e5 = split (leb t.min MAX_TIME) _ e4.1 in
    record { ordered = leb-true t.min t.max e4.0; within = leb-true t.max MAX_TIME e5.1 }

-- the duration lies between the bounds ..
pub duration-between : (t : AckTimeout) (roundtrip : ℕ) (resent unreliable : Bool) → t.min ≤ t.max
    → (t.min ≤ duration_of t roundtrip resent unreliable) × (duration_of t roundtrip resent unreliable ≤ t.max)
unfolding duration_of
duration-between t roundtrip resent unreliable ordered =
    let n = counted (product t roundtrip resent unreliable) t.max in
    (le-max_left t.min (min n t.max), max-le ordered (min-le_right n t.max))

-- .. and grows with the round trip
pub clamped-grows : (least most : ℕ) {m n : ℕ} → m ≤ n → clamped least most m ≤ clamped least most n
clamped-grows least most {m} {n} h =
    max-le (le-max_left least (min n most)) (le_trans (le-min (le_trans (min-le_left m most) h) (min-le_right m most)) (le-max_right least (min n most)))

pub duration-grows : (t : AckTimeout) {roundtrip later : ℕ} (resent unreliable : Bool) → t.max < 2 ^ 64 → roundtrip ≤ later
    → duration_of t roundtrip resent unreliable ≤ duration_of t later resent unreliable
duration-grows t {roundtrip} {later} resent unreliable fits h =
    let r = cond resent t.resent_factor 1 in
    let u = cond unreliable t.unreliable_factor 1 in
    let more = mul-le-mul_right u (mul-le-mul_right r (mul-le-mul_right t.roundtrip_factor h)) in
    rw (duration-whole t roundtrip resent unreliable fits, duration-whole t later resent unreliable fits) (clamped-grows t.min t.max more)
