-- Document 01, "Calls keep a sound state sound.": flush. Assumes nothing.
use Rattle.std.specs.Prelude.{◌≡◌, refl, false, ℕ, ◌≤◌, Some, None, Option}
use Rattle.std.proofs.Common.{sym, ap, ◌∙◌, arith}
use Rattle.std.proofs.lemmas.List.{set-get_or}
use Rattle.link.specs.Row.{no_row}
use Rattle.engine.specs.declared.state.SentReliableStatus.TheVariants.{Sent}
use Rattle.engine.specs.declared.state.State.{State}
use Rattle.engine.specs.Ring.{refill-length}
use Rattle.engine.specs.Packets.{no_packet, packets, is_received, is_queued, queued_of, SentOn, Outstanding, Settled, sum_of}
use Rattle.engine.specs.Gates.{AtTime}
use Rattle.engine.specs.Sound.{row_at, packet_at, FlushedBy}
use Rattle.engine.specs.Flushing.{flushed, flushed_packet, flushed_state}
use Rattle.engine.specs.Table.{with_table}
use Rattle.engine.specs.Fields.{flush_time, flushed_flight}
use Rattle.engine.specs.Sizes.{PACKETS}
use Rattle.laws.specs.Good.{Good}
use Rattle.laws.specs.RowsKept.{rows_of, row-later}
use Rattle.laws.specs.Parts.{same-sizes, after-good, Fits, OnSlot, slot-by, slot-sum, changed-sending, still}
use Rattle.laws.specs.PacketsKept.{queued-mapped}
use Rattle.laws.specs.PacketEffects.{flushed-packets}

-- a flush time that is there was before now, and else it is now
flushed-in : (f : Option ℕ) (time later : ℕ) → time ≤ later → FlushedBy time f → FlushedBy later (flush_time f later)
flushed-in None time later h b = omega arith
flushed-in (Some at) time later h b = omega arith

-- the rows, the queue and every sum stay
pub flushed-good : (s : State) → Good s → (slot time : ℕ) → AtTime s slot time → Good (flushed_state s slot time)
unfolding flushed_state flushed with_table
flushed-good s good slot time ok =
    let t = flushed_state s slot time in
    let ps = packets s.tx in
    let now = flushed-packets s good slot time in
    let links = sym (set-get_or s.links slot no_row) in
    let on : OnSlot slot (flushed slot time) (λ flight. Sent (flushed_flight flight time)) = record { sent = λ flight. refl; received = refl; queued = λ link. refl } in
    let sums : (j : ℕ) → sum_of (SentOn j) (packets t.tx) ≡ sum_of (SentOn j) ps =
    λ j. ap (sum_of (SentOn j)) now ∙ slot-sum on (SentOn j) (λ len flight e. refl) ps in
    let queued =
    queued-mapped (flushed_packet slot time) (λ p. refl) (λ p. slot-by on (λ st new. is_queued new ≡ is_queued st) (λ st e. refl) (λ flight e. refl) p.status) ps in
    after-good s t slot (row_at s slot) good ok (record {
      sending =
          changed-sending s t good (λ p. flushed slot time p.status) 0 now (omega arith) refl
          (λ p h. slot-by on (λ st new. Fits s st → Fits t new) (λ st e. still s t good slot ok (row_at s slot) links refl refl st)
          (λ flight e b. (b.0, (omega (arith, b.1.0, ok.later), flushed-in flight.flushed s.time time ok.later b.1.1))) p.status h)
          (λ h. slot-by on (λ st new. is_received st ≡ false → is_received new ≡ false) (λ st away e. e) (λ flight at e. refl) (packet_at s 0).status (good.sound.first h))
          (good.sound.queued ∙ sym (ap queued_of now ∙ queued)) good.sound.queue-count
          (good.sound.unacked ∙ sym (ap (sum_of Outstanding) now ∙ slot-sum on Outstanding (λ len flight e. refl) ps))
          (good.sound.unconsumable ∙ sym (ap (sum_of Settled) now ∙ slot-sum on Settled (λ len flight e. refl) ps));
      links = links;
      full = good.shaped.queues slot ok.at.small;
      who = λ l. refl;
      fine = λ l. rw (sums slot) (row-later _ _ s.time time ok.later (rows_of s good.sound slot ok.at.small l));
      others = λ j ne. sums j;
      sized = same-sizes s good t.tx (refill-length PACKETS no_packet s.tx.txed_packets _ _ ∙ good.shaped.packets-full) good.shaped.queue-full refl refl refl;
      received = (_, omega arith, refl);
    })
