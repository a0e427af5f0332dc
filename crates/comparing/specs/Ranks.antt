-- Document 02 [6]: "Distance is taken from a start number". Assumes nothing.
use Rattle.std.specs.Prelude.{◌≡◌, ℕ, ◌+◌, ◌-◌, ◌^◌, ◌<◌, ltb, ℤ, pos, negsuc, Some, None, Option}
use Rattle.std.proofs.Common.{arith}
use Rattle.std.specs.Int.Signed.{mag}
use borrow.Author.Tests.{ltb-true, ltb-false}
use borrow.Table.Steps.{cases}
use Rattle.seq.specs.Numbers.{plus, minus, signed}
use Rattle.seq.specs.Laws.{minus-lt, plus-lt, signed_low, signed_high}
use Rattle.seq.specs.Distance.{distance_of, by-signed}
use Rattle.comparing.specs.declared.messages.Message.{Message}

-- a signed distance from the start number and 2^31, so that ranks are naturals that rise as the distance does
abbrev pub rank_by : ℤ → ℕ
rank_by (pos d) = 2 ^ 31 + d
rank_by (negsuc d) = 2 ^ 31 - 1 - d

-- the number of a rank
unfoldable pub number_of : ℕ → ℕ → ℕ
unfolding plus
number_of start rank = plus (plus start (2 ^ 31)) rank

-- "22 for a number far from the start number": the line of a message with such a number, else 0
abbrev pub far_as : Option ℤ → ℕ → ℕ
far_as (Some d) line = 0
far_as None line = line

unfoldable pub far_at : ℕ → Message → ℕ
unfolding distance_of
far_at start m = far_as (distance_of m.number.0 start) m.line

-- ---- laws

pub rank-by-lt : (d : ℤ) → mag d < 2 ^ 31 → rank_by d < 2 ^ 32
rank-by-lt (pos n) h = omega arith
rank-by-lt (negsuc n) h = omega arith

pub number_lt : (start rank : ℕ) → number_of start rank < 2 ^ 32
unfolding number_of
number_lt start rank = plus-lt (plus start (2 ^ 31)) rank

-- the rank whose number a number is, for any number, far ones too: only laws speak of it
unfoldable pub rank_of : ℕ → ℕ → ℕ
unfolding minus
rank_of start number = minus number (minus start (2 ^ 31))

pub rank_lt : (start number : ℕ) → rank_of start number < 2 ^ 32
unfolding rank_of
rank_lt start number = minus-lt number (minus start (2 ^ 31))

-- each number below 2^32 has one rank below 2^32, and each such rank one number
pub rank-of-number : (start rank : ℕ) → start < 2 ^ 32 → rank < 2 ^ 32 → rank_of start (number_of start rank) ≡ rank
unfolding rank_of number_of plus minus
rank-of-number start rank h g = omega arith

pub number-of-rank : (start number : ℕ) → start < 2 ^ 32 → number < 2 ^ 32 → number_of start (rank_of start number) ≡ number
unfolding rank_of number_of plus minus
number-of-rank start number h g = omega arith

module _ (start number : ℕ) where
  rank-signed : start < 2 ^ 32 → rank_by (signed (minus number start)) ≡ rank_of start number
  unfolding rank_of minus
  rank-signed h =
      let d = minus number start in
      cases (ltb d (2 ^ 31))
      (λ t. let i = ltb-true d (2 ^ 31) t in simp (signed_low d i) (omega arith))
      (λ f. let i = ltb-false d (2 ^ 31) f in simp (signed_high d i) (omega arith))

  -- so a number that is not far has the rank by its distance
  pub rank-by : (d : ℤ) → start < 2 ^ 32 → distance_of number start ≡ Some d → rank_by d ≡ rank_of start number
  rank-by d h e = rw (by-signed number start d e) at (rank-signed h)
