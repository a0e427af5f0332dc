-- One word is set.
use mathlib.Core.Path.{ap}
use native.Mathlib.Omega.{arith}
use lib.ListN.{set}
use Rattle.comparing.specs.Listing.{words_for}
use Rattle.comparing.proofs.listing.push.Goals as goal

pub returns : goal.returns
unfolding words_for
returns c = let a = c.args in
    record { count = omega arith; list = ap (set a.list.now a.n) c.word_of.ensures }
