-- The resend queue, gathered in its own place: what a loop over the table does in a turn. Assumes nothing.
use Rattle.std.specs.Prelude.{◌≡◌, refl, List, ◌∷◌, ◌++◌, ℕ, ◌-◌, ◌%◌, ◌≤◌, ◌<◌, length, get_or, drop}
use Rattle.std.proofs.Common.{sym, ap, ◌∙◌, arith}
use Rattle.seq.specs.declared.Seq.{Seq}
use Rattle.engine.specs.declared.state.SentReliable.{SentReliable}
use Rattle.engine.specs.declared.state.State.{State}
use Rattle.engine.specs.Sizes.{PACKETS}
use Rattle.engine.specs.Fields.{with_tx, with_queue}
use Rattle.engine.specs.Ring.{window, window-step, window-none, window-length, next_cell, next-cell-lt}
use Rattle.engine.specs.Packets.{no_packet, packets, first_of, queued_of}
use Rattle.engine.specs.Queue.{put_in, Gathering, gather-turn, gather-end}

-- a packet's number behind the first n of a queue, where it is queued: the queue, and how many there are
abbrev pub numbers_put : List Seq → ℕ → SentReliable → List Seq
numbers_put queue n p = (put_in (record { numbers = queue; count = n }) p).numbers

abbrev pub count_put : List Seq → ℕ → SentReliable → ℕ
count_put queue n p = (put_in (record { numbers = queue; count = n }) p).count

-- a state whose queue is made anew in its place: so many packets from a cell on are still to be looked at
pub record Requeuing (s then : State) (count at left : ℕ) : Type 0 where
  pub cell : at < PACKETS
  pub others : then ≡ with_tx s (with_queue s.tx then.tx.resend_queue s.tx.resend_count)
  pub rest : Gathering s.tx.resend_queue (queued_of (packets s.tx)) (record { numbers = then.tx.resend_queue; count = count }) (window PACKETS no_packet s.tx.txed_packets at left)

pub requeue-start : (s : State) → s.tx.txed_count ≤ PACKETS → length s.tx.resend_queue ≡ PACKETS → Requeuing s s 0 (first_of s.tx % PACKETS) s.tx.txed_count
requeue-start s few full = record {
  cell = omega arith;
  others = refl;
  rest = record {
    front = refl;
    back = refl;
    full = full;
    room = omega (arith, window-length PACKETS no_packet s.tx.txed_packets (first_of s.tx % PACKETS) s.tx.txed_count);
  };
}

module _ (s then : State) (count at left : ℕ) (h : Requeuing s then count at left) where
  -- the packet of a cell, and the place that its number would take
  pub requeue-packet : get_or then.tx.txed_packets at no_packet ≡ get_or s.tx.txed_packets at no_packet
  requeue-packet = ap (λ (t : State). get_or t.tx.txed_packets at no_packet) h.others

  pub requeue-room : 0 < left → count < PACKETS
  requeue-room some = omega (arith, h.rest.room, window-length PACKETS no_packet s.tx.txed_packets at left)

  pub requeue-turn : (p : SentReliable) (next : State) → 0 < left → p ≡ get_or then.tx.txed_packets at no_packet
      → next ≡ with_tx then (with_queue then.tx (numbers_put then.tx.resend_queue count p) then.tx.resend_count)
      → Requeuing s next (count_put then.tx.resend_queue count p) (next_cell PACKETS at) (left - 1)
  requeue-turn p next some here e =
      let queue : next.tx.resend_queue ≡ numbers_put then.tx.resend_queue count p = ap (λ (t : State). t.tx.resend_queue) e in
      let step : window PACKETS no_packet s.tx.txed_packets at left ≡ p ∷ window PACKETS no_packet s.tx.txed_packets (next_cell PACKETS at) (left - 1) =
      window-step PACKETS no_packet s.tx.txed_packets at left some ∙ ap (λ (x : SentReliable). x ∷ window PACKETS no_packet s.tx.txed_packets (next_cell PACKETS at) (left - 1)) (sym (here ∙ requeue-packet)) in
      record {
        cell = next-cell-lt PACKETS at (omega arith);
        others =
            e
            ∙ ap (λ (t : State). with_tx t (with_queue t.tx (numbers_put then.tx.resend_queue count p) t.tx.resend_count)) h.others
            ∙ ap (λ (q : List Seq). with_tx s (with_queue s.tx q s.tx.resend_count)) (sym queue);
        rest = rw queue (gather-turn s.tx.resend_queue (queued_of (packets s.tx)) _ p _ (rw step at h.rest));
      }

  pub requeue-end : left ≤ 0
      → (count ≡ length (queued_of (packets s.tx)))
      × (then ≡ with_tx s (with_queue s.tx (queued_of (packets s.tx) ++ drop (length (queued_of (packets s.tx))) s.tx.resend_queue) s.tx.resend_count))
  requeue-end none =
      let e = gather-end s.tx.resend_queue (queued_of (packets s.tx)) _ (rw (window-none PACKETS no_packet s.tx.txed_packets at left none) at h.rest) in
      (ap (λ g. g.count) e, h.others ∙ ap (λ g. with_tx s (with_queue s.tx g.numbers s.tx.resend_count)) e)
