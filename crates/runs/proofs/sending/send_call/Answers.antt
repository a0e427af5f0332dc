-- By the message that is named.
use mathlib.Core.Path.{sym, ◌∙◌}
use Rattle.runs.specs.Did.{none-did}
use Rattle.runs.specs.Asked.{send_asked}
use Rattle.runs.proofs.sending.send_call.Goals as goal

pub returns-in-None : goal.returns-in-None
unfolding send_asked
returns-in-None c = λ v k. none-did _ _ _ (simp (sym c.message_given-given.ensures ∙ c.in-None.is)) c.no_call.ensures c.args.sent.now v k

pub returns-in-Some : goal.returns-in-Some
unfolding send_asked
returns-in-Some c = simp (sym c.message_given-given.ensures ∙ c.in-Some.is) c.send_message.ensures
