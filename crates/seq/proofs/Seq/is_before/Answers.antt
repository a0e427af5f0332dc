-- Below 0 is behind, and far is not.
use Rattle.std.proofs.Common.{pos, sym, ap, ◌∙◌}
use lib.Signed.{lt_z}
use Rattle.seq.specs.Distance.{is_behind, before}
use Rattle.seq.proofs.Signed.{read_back, below-zero}
use Rattle.seq.proofs.Seq.is_before.Goals as goal

pub returns-in-Some : goal.returns-in-Some
unfolding before
returns-in-Some c = let d = c.in-Some.d in
    let a = c.args in
    let e = sym c.distance.ensures ∙ c.in-Some.is in
    ap (λ z. lt_z z (pos 0)) (read_back a.self.0 a.other.0 d e) ∙ below-zero d ∙ sym (ap is_behind e)

pub returns-in-None : goal.returns-in-None
unfolding before
returns-in-None c = ap is_behind (sym c.in-None.is ∙ c.distance.ensures)
