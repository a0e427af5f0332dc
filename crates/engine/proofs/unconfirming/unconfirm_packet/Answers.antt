-- Only a packet that was Sent over the slot changes.
use Rattle.std.proofs.Common.{◌≡◌, refl, rules}
use Rattle.engine.specs.declared.state.SentReliableStatus.TheVariants.{ResendQueued}
use Rattle.engine.specs.Fields.{with_status}
use Rattle.engine.specs.Over.{over-changed}
use Rattle.engine.specs.Unconfirming.{unconfirmed}
use Rattle.engine.proofs.unconfirming.unconfirm_packet.Goals as goal

pub returns : goal.returns
unfolding unconfirmed
returns c = let p = c.args.p in
    over-changed c.args.slot _ (unconfirmed c.args.slot) (λ f. ResendQueued f.link) (λ f. refl) refl (λ l. refl) (λ f st k. search rules)
    p.status (λ st. c.restatus.result ≡ with_status p st) c.restatus.ensures
