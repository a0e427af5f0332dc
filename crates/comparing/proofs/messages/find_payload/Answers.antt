-- Where the line spells a payload, the message is whole, and else the line is bad.
use mathlib.Core.Path.{sym, ◌∙◌}
use mathlib.Core.List.{[]}
use Rattle.recording.specs.Payloads.{payload-says, payload-bad-says}
use Rattle.comparing.proofs.messages.find_payload.Goals as goal

pub returns-in_default : goal.returns-in_default
returns-in_default c = simp (payload-bad-says c.args.text.now [] (sym c.read_payload.ensures.value ∙ c.in_default.is))

pub returns : goal.returns
returns c = simp (payload-says c.args.text.now [] _ (sym c.read_payload.ensures.value ∙ c.in-Some.is)).2
