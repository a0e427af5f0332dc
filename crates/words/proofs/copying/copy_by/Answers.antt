-- The room holds the bytes once it was written over, and the second copy is of them.
use mathlib.Core.Path.{◌≡◌, ◌∙◌}
use mathlib.Core.List.{List, ◌++◌}
use Prim.Native.Nat.{ℕ}
use lib.ListN.{length, take, drop}
use lib.Seq.{take-length}
use Rattle.words.proofs.copying.copy_by.Goals as goal

through : (src dst mid out : List ℕ) → mid ≡ src → out ≡ mid
    → out ++ drop (length mid) dst ≡ take (length src) src ++ drop (length src) dst
through src dst mid out m o =
    let whole : out ≡ src = o ∙ m in
    simp (whole, m, take-length)

pub returns : goal.returns
returns c = let a = c.args in through a.src.now a.dst.now _ _ c.copy_from_slice.ensures.after c.copy_from_slice-2.ensures.after
