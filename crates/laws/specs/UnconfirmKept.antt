-- Document 01, "Calls keep a sound state sound.": unconfirm and remove. Assumes nothing.
use Rattle.std.specs.Prelude.{◌≡◌, refl, true, false, List, map, ℕ, length, get_or, set}
use Rattle.std.proofs.Common.{sym, ap, ◌∙◌, arith, set-set, ne_eqb}
use Rattle.refusal.specs.Tests.{false-true}
use Rattle.link.specs.declared.row.LinkRow.{LinkRow}
use Rattle.link.specs.Row.{empty_row, unconfirmed_row}
use Rattle.link.specs.Sizes.{ACKS}
use Rattle.engine.specs.declared.state.SentReliableStatus.TheVariants.{ResendQueued}
use Rattle.engine.specs.declared.state.State.{State}
use Rattle.engine.specs.Ring.{refill-length}
use Rattle.engine.specs.Packets.{no_packet, packets, is_received, SentOn, Outstanding, Settled, sum_of}
use Rattle.engine.specs.Queue.{requeued}
use Rattle.engine.specs.Rows.{row_of, row-of}
use Rattle.engine.specs.Gates.{AtSlot}
use Rattle.engine.specs.DecidedTables.{RowFine}
use Rattle.engine.specs.Sound.{row_at, packet_at}
use Rattle.engine.specs.Unconfirming.{unconfirmed, unconfirmed_packet, unconfirmed_state, removed_state}
use Rattle.engine.specs.Table.{with_table}
use Rattle.engine.specs.Fields.{with_parts}
use Rattle.engine.specs.Sizes.{PACKETS}
use Rattle.laws.specs.Good.{Good}
use Rattle.laws.specs.RowsKept.{Elsewhere, own_row, sum-elsewhere, here-elsewhere}
use Rattle.laws.specs.RowAcks.{unconfirm-acks, empty-full, same_full}
use Rattle.laws.specs.Parts.{same-sizes, after-good, Fits, OnSlot, slot-by, slot-sum, changed-sending}
use Rattle.laws.specs.PacketsKept.{map-length, map_at, requeued-kept}
use Rattle.laws.specs.PacketEffects.{unconfirmed-packets}

-- the slot's Sent packets are queued, and it has a row without unacked bytes: the link's own, or an empty one
quieted : (s : State) → Good s → (slot : ℕ) → AtSlot s slot → (row : LinkRow) (links : List LinkRow) → links ≡ set s.links slot row → length row.tx_ack_queue ≡ ACKS
    → (row.live ≡ true → row.link_id ≡ (row_at s slot).link_id) → RowFine row 0 s.time → Good (with_parts s links (unconfirmed_state s slot).tx s.rx s.time)
unfolding unconfirmed_state unconfirmed with_table requeued
quieted s good slot ok row links at full who fine =
    let t = with_parts s links (unconfirmed_state s slot).tx s.rx s.time in
    let f = unconfirmed_packet slot in
    let ps = packets s.tx in
    let again = requeued-kept (with_table s.tx (map f ps)) good.sound.packet-count good.shaped.queue-full in
    let now = unconfirmed-packets s good slot in
    let on : OnSlot slot (unconfirmed slot) (λ flight. ResendQueued flight.link) = record { sent = λ flight. refl; received = refl; queued = λ link. refl } in
    let none : sum_of (SentOn slot) (map f ps) ≡ 0 =
    sum-elsewhere slot (map f ps) (λ i h. rw (map_at f no_packet ps i (omega (arith, map-length f ps)))
    (slot-by on (λ st new. Elsewhere slot new) (λ st away. away) (λ flight e. tt) (get_or ps i no_packet).status)) in
    after-good s t slot row good (record { at = ok; later = omega arith; top = good.sound.time-within }) (record {
      sending =
          changed-sending s t good (λ p. unconfirmed slot p.status) 0 now (omega arith) refl
          (λ p h. slot-by on (λ st new. Fits s st → Fits t new)
          (λ st away b. (here-elsewhere s t slot row at (omega (arith, good.shaped.links-full, ok.small)) st away b.0, b.1)) (λ flight e b. (tt, tt)) p.status h)
          (λ h. slot-by on (λ st new. is_received st ≡ false → is_received new ≡ false) (λ st away e. e) (λ flight e r. refl) (packet_at s 0).status (good.sound.first h))
          again.0 again.1
          (good.sound.unacked ∙ sym (ap (sum_of Outstanding) now ∙ slot-sum on Outstanding (λ len flight e. refl) ps))
          (good.sound.unconsumable ∙ sym (ap (sum_of Settled) now ∙ slot-sum on Settled (λ len flight e. refl) ps));
      links = at;
      full = full;
      who = who;
      fine = λ l. rw (ap (sum_of (SentOn slot)) now ∙ none) fine;
      others = λ j ne. ap (sum_of (SentOn j)) now ∙ slot-sum on (SentOn j) (λ len flight e. simp (ne_eqb flight.slot j (λ g. ne (sym g ∙ e)))) ps;
      sized = same-sizes s good t.tx (refill-length PACKETS no_packet s.tx.txed_packets _ _ ∙ good.shaped.packets-full) again.2 refl refl refl;
      received = (_, omega arith, refl);
    })

-- the link keeps its slot and identity, and none of its bytes is unacked
pub unconfirmed-good : (s : State) → Good s → (slot : ℕ) → AtSlot s slot → Good (unconfirmed_state s slot)
unfolding unconfirmed_state unconfirmed_row
unconfirmed-good s good slot ok =
    let own = row-of s slot ok.small in
    let old = own_row s good.sound slot ok.small ok.live in
    let new : RowFine (unconfirmed_row (row_at s slot)) 0 s.time = record { sums = refl; trip = old.trip; limit = old.limit; pinged = old.pinged; acks = old.acks } in
    quieted s good slot ok (unconfirmed_row (row_of s slot)) _ refl (same_full s slot good.shaped _ (unconfirm-acks (row_of s slot)))
    (λ l. ap (λ r. r.link_id) own) (rw own new)

-- nobody lives in an empty slot
pub removed-good : (s : State) → Good s → (slot : ℕ) → AtSlot s slot → Good (removed_state s slot)
unfolding removed_state unconfirmed_state empty_row
removed-good s good slot ok =
    quieted s good slot ok empty_row _ (set-set s.links slot _ empty_row) empty-full (λ l. false-true l)
    (record { sums = refl; trip = omega arith; limit = refl; pinged = refl; acks = omega arith })
