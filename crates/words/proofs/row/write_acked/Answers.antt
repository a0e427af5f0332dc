-- The five words, one after another.
use mathlib.Core.Path.{subst}
use Prim.Native.Nat.{◌<◌, ◌^◌}
use lib.ListN.{length-set}
use native.Mathlib.Omega.{arith}
use Rattle.words.specs.Encoded.{limit-flag}
use Rattle.words.proofs.row.write_acked.Goals as goal

pub bounds-part-12 : goal.bounds-part-12
bounds-part-12 c = simp length-set (omega arith)

pub shape_of-part : goal.shape_of-part
shape_of-part c = simp length-set

pub returns : goal.returns
returns c = record {
  part_after = simp (c.flag.ensures, c.flag-2.ensures, c.is_some.ensures, limit-flag, c.limit_word.ensures.value, c.from.ensures);
  limit_increased_bound = subst (λ n. n < 2 ^ 32) c.limit_word.ensures.value c.limit_word.ensures.upper_bound;
}
