-- The kind is below 8 and the detail below 2^28, so the sum fits 64 bits.
use native.Mathlib.Omega.{arith}
use borrow.Author.Rules.{rules}
use Rattle.comparing.specs.Words.{word_of, kind-and-detail-fit}
use Rattle.comparing.proofs.listing.word_of.Goals as goal

pub overflow_add-result : goal.overflow_add-result
overflow_add-result c = omega (arith, (kind-and-detail-fit c.args.d c.requires).0)

pub overflow_mul-result-2 : goal.overflow_mul-result-2
overflow_mul-result-2 c = omega (arith, (kind-and-detail-fit c.args.d c.requires).0)

pub overflow_add-result-2 : goal.overflow_add-result-2
overflow_add-result-2 c = let f = kind-and-detail-fit c.args.d c.requires in omega (arith, f.0, f.1)

pub returns : goal.returns
unfolding word_of
returns c = search rules
