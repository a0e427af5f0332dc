-- `resend` keeps a sound state sound: the packet leaves the queue, its bytes join the new link's, and the totals stay. Assumes nothing.
use Rattle.std.specs.Prelude.{◌≡◌, refl, true, false, ℕ, ◌+◌, ◌^◌, ◌<◌}
use Rattle.std.proofs.Common.{◌∙◌, arith, length-set}
use Rattle.refusal.specs.Tests.{false-true}
use Rattle.link.specs.Limit.{mark_resent}
use Rattle.engine.specs.declared.state.SentReliableStatus.{SentReliableStatus}
use Rattle.engine.specs.declared.state.SentReliableStatus.TheVariants.{Sent, Received, ResendQueued}
use Rattle.engine.specs.declared.state.State.{State}
use Rattle.engine.specs.Packets.{packets, is_queued, is_received, Pick, SentOn, Outstanding, Settled, weight_as, sum_of}
use Rattle.engine.specs.Queue.{requeued}
use Rattle.engine.specs.Table.{looked_at, with_packet}
use Rattle.engine.specs.Rows.{row_of}
use Rattle.engine.specs.Sound.{packet_at}
use Rattle.engine.specs.Resending.{resent_state, ResendPassed}
use Rattle.engine.specs.Fields.{with_status}
use Rattle.laws.specs.Good.{Good}
use Rattle.laws.specs.RowAcks.{resent-acks}
use Rattle.laws.specs.RowChanged.{mark-resent}
use Rattle.laws.specs.Parts.{same-sizes, Fits, change-at, changed-sending, over-good}
use Rattle.laws.specs.PacketsKept.{requeued-kept}
use Rattle.laws.specs.PacketEffects.{change_at, resent_status, replaced-sum, resent-packets}

-- a queued status has a link
queued-is : (st : SentReliableStatus) → is_queued st ≡ true → (link : ℕ) × (st ≡ ResendQueued link)
queued-is (Sent flight) u = false-true u
queued-is Received u = false-true u
queued-is (ResendQueued link) u = (link, refl)

-- the packet leaves the queue and is Sent over the link now
pub resent-good : (s : State) → Good s → (slot time n : ℕ) → n < 2 ^ 32 → ResendPassed s slot time n → Good (resent_state s slot time n)
unfolding resent_state requeued with_packet
resent-good s good slot time n number ok =
    let t = resent_state s slot time n in
    let p = looked_at s.tx n in
    let status = resent_status s slot time p.status in
    let again = requeued-kept (with_packet s.tx n (with_status p status)) good.sound.packet-count good.shaped.queue-full in
    let was = queued-is p.status ok.queued in
    let sums : (k : Pick) → sum_of k (packets t.tx) + weight_as k (ResendQueued was.0) p.len ≡ sum_of k (packets s.tx) + weight_as k status p.len =
    λ k. rw was.1 at (replaced-sum s good n number ok.held (with_status p status) k) in
    over-good s t good slot ok.timed (mark_resent (row_of s slot) n) (mark-resent _ (row_of s slot) n) p.len true refl (resent-acks (row_of s slot) n _)
    (λ j. omega (arith, sums (SentOn j)))
    (λ kept new. changed-sending s t good (change_at n (resent_status s slot time)) 0 (resent-packets s good slot time n number ok.held) (omega arith) refl
    (λ q h. change-at (Fits t) n (resent_status s slot time) q (kept q.status h) new)
    (λ h. change-at (λ st. is_received st ≡ false) n (resent_status s slot time) (packet_at s 0) (good.sound.first h) refl)
    again.0 again.1 (omega (arith, good.sound.unacked, sums Outstanding)) (omega (arith, good.sound.unconsumable, sums Settled)))
    (same-sizes s good t.tx (length-set s.tx.txed_packets _ (with_status p status) ∙ good.shaped.packets-full) again.2 refl refl refl)
    (_, omega arith, refl)
