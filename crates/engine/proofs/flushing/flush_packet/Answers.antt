-- Only a packet that was Sent over the slot changes.
use Rattle.std.proofs.Common.{◌≡◌, refl, rules}
use Rattle.engine.specs.declared.state.SentReliableStatus.TheVariants.{Sent}
use Rattle.engine.specs.Fields.{with_status, flushed_flight}
use Rattle.engine.specs.Over.{over-changed}
use Rattle.engine.specs.Flushing.{flushed}
use Rattle.engine.proofs.flushing.flush_packet.Goals as goal

pub returns : goal.returns
unfolding flushed
returns c = let p = c.args.p in
    over-changed c.args.slot _ (flushed c.args.slot c.args.time) (λ f. Sent (flushed_flight f c.args.time)) (λ f. refl) refl (λ l. refl) (λ f st k. search rules)
    p.status (λ st. c.restatus.result ≡ with_status p st) c.restatus.ensures
