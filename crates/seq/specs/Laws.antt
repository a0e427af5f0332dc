-- The laws of numbers that the layers above live on. `plus s k` is the number that count k has where s is the start.
-- Assumes nothing.
use Rattle.std.specs.Prelude.{◌≡◌, ℕ, ◌+◌, ◌-◌, ◌%◌, ◌^◌, ◌<◌, ◌≤◌, pos, negsuc}
use Rattle.std.specs.Int.{◌∣◌}
use Rattle.std.proofs.Math.Nat.{mod-mod_of_dvd}
use Rattle.std.proofs.Common.{arith, lt-ltb, le-ltb}
use Rattle.seq.specs.Numbers.{plus, minus, signed}

-- every sum and difference is a number
pub plus-lt : (a n : ℕ) → plus a n < 2 ^ 32
unfolding plus
plus-lt a n = omega arith

pub minus-lt : (a b : ℕ) → minus a b < 2 ^ 32
unfolding minus
minus-lt a b = omega arith

-- the signed reading, below 2^31 and from there on
pub signed_low : (d : ℕ) → d < 2 ^ 31 → signed d ≡ pos d
unfolding signed
signed_low d h = simp (lt-ltb d (2 ^ 31) h)

pub signed_high : (d : ℕ) → 2 ^ 31 ≤ d → signed d ≡ negsuc (2 ^ 32 - 1 - d)
unfolding signed
signed_high d h = simp (le-ltb d (2 ^ 31) h)

-- adding is associative
pub plus-plus : (a m n : ℕ) → plus (plus a m) n ≡ plus a (m + n)
unfolding plus
plus-plus a m n = omega arith

-- adding and subtracting undo each other, and the difference is what was added
pub minus_plus : (a n : ℕ) → a < 2 ^ 32 → n < 2 ^ 32 → minus (plus a n) n ≡ a
unfolding plus minus
minus_plus a n ha hn = omega arith

pub plus-minus : (a n : ℕ) → a < 2 ^ 32 → n < 2 ^ 32 → plus (minus a n) n ≡ a
unfolding plus minus
plus-minus a n ha hn = omega arith

pub plus-difference : (a b : ℕ) → a < 2 ^ 32 → b < 2 ^ 32 → plus b (minus a b) ≡ a
unfolding plus minus
plus-difference a b ha hb = omega arith

-- the wrapped difference of two numbers that were counted from one start
pub minus-ahead : (s k l : ℕ) → l ≤ k → k - l < 2 ^ 32 → minus (plus s k) (plus s l) ≡ k - l
unfolding plus minus
minus-ahead s k l h g = omega arith

pub minus-behind : (s k l : ℕ) → k < l → l - k < 2 ^ 32 → minus (plus s k) (plus s l) ≡ 2 ^ 32 - (l - k)
unfolding plus minus
minus-behind s k l h g = omega arith

-- the remainder by a divisor of 2^32 survives the wrap: number n uses cell n mod N, and the next number the next cell
pub cell-counted : (cells s k : ℕ) → cells ∣ 2 ^ 32 → plus s k % cells ≡ (s + k) % cells
unfolding plus
cell-counted cells s k h = mod-mod_of_dvd _ (s + k) h
