-- Document 01, "Calls keep a sound state sound.": send. Assumes nothing.
use Rattle.std.specs.Prelude.{◌≡◌, refl, false, ℕ, ◌+◌, ◌-◌, get_or}
use Rattle.std.proofs.Common.{sym, ap, ◌∙◌, arith, length-set}
use Rattle.seq.specs.Numbers.{seq_of, plus}
use Rattle.seq.specs.Laws.{plus-lt, plus-minus}
use Rattle.msg.specs.declared.reliable.ReliableMsg.{ReliableMsg}
use Rattle.msg.specs.Reliable.{count_of}
use Rattle.engine.specs.declared.state.SentReliableStatus.TheVariants.{Sent}
use Rattle.engine.specs.declared.state.State.{State}
use Rattle.engine.specs.Packets.{no_packet, first_of, packets, is_received, queued_of, Pick, SentOn, Outstanding, Settled, weight, sum_of}
use Rattle.engine.specs.DecidedPackets as packet
use Rattle.engine.specs.Rows.{row_of}
use Rattle.engine.specs.Sound.{packet_at}
use Rattle.engine.specs.Sending.{sent_tx, told_rx, sent_state, SendPassed}
use Rattle.engine.specs.Fields.{new_packet, new_flight}
use Rattle.laws.specs.Good.{Good}
use Rattle.laws.specs.RowAcks.{unacked-acks}
use Rattle.laws.specs.Parts.{over-good}
use Rattle.laws.specs.PacketsKept.{packets-count, sum_added, queued-added, each-added}
use Rattle.laws.specs.PacketEffects.{first-same, sent-packets}

-- the packet is as Sound asks, and so is every other still; the sums grow by its weight
pub sent-good : (s : State) → Good s → (store slot time : ℕ) (msg : ReliableMsg) (len : ℕ) → SendPassed s store slot time msg len → Good (sent_state s slot time msg len)
unfolding sent_state sent_tx told_rx
sent-good s good store slot time msg len ok =
    let t = sent_state s slot time msg len in
    let ps = packets s.tx in
    let count = s.tx.txed_count in
    let r = row_of s slot in
    let room = ok.room in
    let new = new_packet s.tx.tx_seq msg len (Sent (new_flight time slot r.link_id false)) in
    let now = sent-packets s good slot r.link_id time msg len room.places in
    let number = ap seq_of (sym (plus-minus s.tx.tx_seq.0 count good.shaped.next-u32 (omega (arith, room.places)))) in
    let sums : (k : Pick) → sum_of k (packets t.tx) ≡ sum_of k ps + weight k new = λ k. ap (sum_of k) now ∙ sum_added new k ps in
    over-good s t good slot ok.timed r (record { live = refl; id = refl; bytes = refl; trip = refl; limit = refl; pinged = refl; acks = refl })
    len false refl (unacked-acks r _) (λ j. sums (SentOn j))
    (λ kept here.
    let each = each-added new (λ i p. packet.Good t p (plus (first_of s.tx) i) × (i ≡ 0 → is_received p.status ≡ false)) ps count (packets-count s.tx)
    (λ i h.
    let old = kept (packet_at s i).status (good.sound.sent i h, good.sound.sent-by i h) in (
      record { number = good.sound.consecutive i h; fits = good.sound.packet-length i h; here = old.0; timed = old.1 },
      λ e. ap (λ k. is_received (packet_at s k).status) e ∙ good.sound.first (omega arith),
    ))
    (record { number = number; fits = ok.fits; here = here.0; timed = here.1 }, λ e. refl) in
    record {
      each = λ i h. rw (now, first-same s.tx.tx_seq.0 count good.shaped.next-u32 room.places) (each i h).0;
      first = λ h. ap (λ qs. is_received (get_or qs 0 no_packet).status) now ∙ (each 0 h).1 refl;
      queued = good.sound.queued ∙ sym (ap queued_of now ∙ queued-added new refl ps);
      unacked = omega (arith, sums Outstanding, good.sound.unacked);
      unconsumable = omega (arith, sums Settled, good.sound.unconsumable);
      packet-count = omega (arith, room.places);
      queue-count = good.sound.queue-count;
    })
    (record {
      cells = length-set s.tx.txed_packets _ new ∙ good.shaped.packets-full;
      places = good.shaped.queue-full;
      next = plus-lt s.tx.tx_seq.0 1;
      unconsumed = room.unconsumed-fits;
      last = good.shaped.last-u32;
    })
    (s.rx.rxed_reliable_consumed - count_of msg, omega arith, refl)
