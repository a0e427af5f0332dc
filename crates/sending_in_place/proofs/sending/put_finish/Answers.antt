-- By the kind.
use mathlib.Core.Path.{ap, ◌∙◌}
use borrow.Author.Tests.{eq-eqb, ne_eqb}
use Rattle.engine.specs.Fields.{with_tx}
use Rattle.words.specs.Meaning.{state_of}
use Rattle.sending_in_place.specs.Untold.{finishes, goes_on}
use Rattle.sending_in_place.proofs.sending.put_finish.Goals as goal

pub returns-then-kind-eq-MSG_SEND_FINISH : goal.returns-then-kind-eq-MSG_SEND_FINISH
returns-then-kind-eq-MSG_SEND_FINISH c = let tx = (state_of c.args.words.now).tx in
    c.put_send_finish_sent.ensures ∙ ap (with_tx (state_of c.args.words.now)) (finishes tx c.args.msg (eq-eqb _ _ (rw c.kind.ensures at c.if-kind-eq-MSG_SEND_FINISH.true)))

pub returns-else-kind-eq-MSG_SEND_FINISH : goal.returns-else-kind-eq-MSG_SEND_FINISH
returns-else-kind-eq-MSG_SEND_FINISH c = let tx = (state_of c.args.words.now).tx in
    ap (with_tx (state_of c.args.words.now)) (goes_on tx c.args.msg (ne_eqb _ _ (rw c.kind.ensures at c.if-kind-eq-MSG_SEND_FINISH.false)))
