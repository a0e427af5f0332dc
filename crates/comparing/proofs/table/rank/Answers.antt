-- In 64 bits the sum with 2^31 doesn't wrap, and it is not negative.
use mathlib.Core.Path.{◌≡◌, ap, ◌∙◌, subst⁻¹}
use Prim.Native.Nat.{suc, ◌^◌, ◌<◌}
use native.Mathlib.Omega.{arith}
use borrow.Author.Tests.{le-ltb}
use lib.Dec.{T}
use lib.IntN.{ℤ, pos, negsuc, ◌+ℤ◌, nat_abs}
use lib.Signed.{mag, non_neg}
use mir.Syntax.{w32, w64}
use mir.Val.{to_z, of_z, Fits, SFits}
use mir.ValLaws.{to_z-of_z}
use Rattle.comparing.specs.Ranks.{rank_by, rank-by-lt}
use Rattle.comparing.proofs.table.rank.Goals as goal

raised : (d : ℤ) → mag d < 2 ^ 31 → d +ℤ pos 2147483648 ≡ pos (rank_by d)
raised (pos n) h = ap pos (omega arith)
raised (negsuc n) h = simp (le-ltb 2147483648 (suc n) (omega arith)) (ap pos (omega arith))

module _ (d : ℤ) (h : SFits w32 d) where
  wide : SFits w64 (to_z w32 (of_z w32 d))
  wide = rw (to_z-of_z w32 d h) (record { sfits = omega (arith, h.sfits) })

  sum : to_z w64 (of_z w64 (to_z w32 (of_z w32 d))) +ℤ pos 2147483648 ≡ pos (rank_by d)
  sum = ap (λ z. z +ℤ pos 2147483648) (to_z-of_z w64 (to_z w32 (of_z w32 d)) wide ∙ to_z-of_z w32 d h) ∙ raised d h.sfits

  sum_fits : SFits w64 (to_z w64 (of_z w64 (to_z w32 (of_z w32 d))) +ℤ pos 2147483648)
  sum_fits = subst⁻¹ (SFits w64) sum (record { sfits = omega (arith, rank-by-lt d h.sfits) })

  read : to_z w64 (of_z w64 (to_z w64 (of_z w64 (to_z w32 (of_z w32 d))) +ℤ pos 2147483648)) ≡ pos (rank_by d)
  read = to_z-of_z w64 _ sum_fits ∙ sum

pub overflow_cast-result : goal.overflow_cast-result
overflow_cast-result c = wide c.args.d c.ranges.d

pub overflow_add-result : goal.overflow_add-result
overflow_add-result c = sum_fits c.args.d c.ranges.d

pub overflow_cast-result-2 : goal.overflow_cast-result-2
overflow_cast-result-2 c = subst⁻¹ (λ z. T (non_neg z) × Fits w64 (nat_abs z)) (read c.args.d c.ranges.d)
    (tt, record { fits = omega (arith, rank-by-lt c.args.d c.ranges.d.sfits) })

pub returns : goal.returns
returns c = ap nat_abs (read c.args.d c.ranges.d)
