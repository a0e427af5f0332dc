-- The number, the message, and then the status.
use Rattle.std.proofs.Common.{sym, ◌∙◌, eqb-true}
use Rattle.std.proofs.lemmas.Bool.{not-true, not-false}
use Rattle.judging.specs.Weights.{other-number, bad-message, well-weighed}
use Rattle.judging.proofs.packet.weight_in.Goals as goal

pub returns-then-ne : goal.returns-then-ne
returns-then-ne c = let a = c.args in
    sym (other-number a.n _ _ a.time a.part.now (not-true _ (sym c.ne.ensures ∙ c.if-ne.true)))

pub returns-then-not-message_ok : goal.returns-then-not-message_ok
returns-then-not-message_ok c = let a = c.args in
    sym (bad-message a.n _ _ a.time a.part.now (eqb-true _ _ (not-false _ (sym c.ne.ensures ∙ c.if-ne.false))) (sym c.message_ok.ensures ∙ c.if-not-message_ok.true))

pub returns : goal.returns
returns c = let a = c.args in
    c.status_in.ensures ∙ sym (well-weighed a.n _ _ a.time a.part.now (eqb-true _ _ (not-false _ (sym c.ne.ensures ∙ c.if-ne.false))) (sym c.message_ok.ensures ∙ c.if-not-message_ok.false))
