-- Document 01: "Totals are at most 2^32 − 1." Assumes nothing.
use Rattle.std.specs.Prelude.{◌≡◌, ℕ, ◌+◌, ◌-◌, ◌^◌, ◌<◌, ◌≤◌, Bool, true, nat_le}
use Rattle.std.proofs.Common.{sym, ◌∙◌, arith, leb-true, leb-false, le-leb}
use Rattle.std.proofs.lemmas.Bool.{lt-leb}
use borrow.Table.Steps.{cases}

abbrev pub MAX_TOTAL : ℕ
MAX_TOTAL = 2 ^ 32 - 1

-- a sum with so much more stays within a bound
abbrev pub fits : (sum more bound : ℕ) → Bool
fits a b max = nat_le (a + b) max

-- ---- laws

-- .. told without making the sum
pub fits-same : (sum more bound : ℕ) → sum ≤ bound → nat_le more (bound - sum) ≡ fits sum more bound
fits-same a b max h =
    cases (nat_le (a + b) max)
    (λ e. le-leb b (max - a) (omega (arith, leb-true (a + b) max e)) ∙ sym e)
    (λ e. lt-leb b (max - a) (omega (arith, leb-false (a + b) max e)) ∙ sym e)

pub total-fits : (sum more : ℕ) → fits sum more MAX_TOTAL ≡ true → sum + more < 2 ^ 32
total-fits a b e = omega (arith, leb-true (a + b) MAX_TOTAL e)
