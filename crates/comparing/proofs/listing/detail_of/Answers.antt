-- What fits its bits makes a detail below 2^28, so no sum wraps.
use native.Mathlib.Omega.{arith}
use Rattle.comparing.specs.Words.{kind-and-detail-fit}
use Rattle.comparing.proofs.listing.detail_of.Goals as goal

pub overflow_mul-result : goal.overflow_mul-result
overflow_mul-result c = let fit = (kind-and-detail-fit c.args.d c.requires).1 in omega (arith, rw c.in-Differ.is at fit)

pub overflow_add-result : goal.overflow_add-result
overflow_add-result c = let fit = (kind-and-detail-fit c.args.d c.requires).1 in omega (arith, rw c.in-Differ.is at fit)

pub overflow_add-result-in-Differ : goal.overflow_add-result-in-Differ
overflow_add-result-in-Differ c = let fit = (kind-and-detail-fit c.args.d c.requires).1 in omega (arith, rw c.in-Differ.is at fit)

pub overflow_mul-result-in-Begins : goal.overflow_mul-result-in-Begins
overflow_mul-result-in-Begins c = let fit = (kind-and-detail-fit c.args.d c.requires).1 in omega (arith, rw c.in-Begins.is at fit)

pub returns-in-Differ : goal.returns-in-Differ
returns-in-Differ c = simp c.in-Differ.is (omega arith)

pub returns-in-Begins : goal.returns-in-Begins
returns-in-Begins c = simp c.in-Begins.is
