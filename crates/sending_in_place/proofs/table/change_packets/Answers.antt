-- The packets that are left, changed in their places, give the same cells at each turn.
use Rattle.std.proofs.Common.{◌-◌, ◌%◌, ◌<◌, ℕ, set, ap, ◌∙◌, subst, arith}
use Rattle.engine.specs.declared.state.SentReliable.{SentReliable}
use Rattle.engine.specs.Fields.{with_tx, with_packets}
use Rattle.engine.specs.Packets.{first_of}
use Rattle.engine.specs.Ring.{next-cell-lt}
use Rattle.engine.specs.Sizes.{PACKETS}
use Rattle.words.specs.Meaning.{state_of}
use Rattle.sending_in_place.specs.Changing.{Changing, change-start, change-turn, change-end, none-done, one-done}
use Rattle.sending_in_place.proofs.table.change_packets.Goals as goal

pub first_cell-at-requires : goal.first_cell-at-requires
first_cell-at-requires g c = rw c.tx_of-tx.ensures c.requires.words_len

pub loop-init : goal.loop-init
loop-init g c = let s = state_of c.args.words.now in record {
  long = c.told-words;
  cell = c.first_cell-at.ensures.upper_bound;
  changing = λ f h. rw (c.first_cell-at.ensures.value, c.tx_of-tx.ensures) (subst (λ (n : ℕ). Changing f s s (first_of s.tx % PACKETS) n) (none-done s.tx.txed_count) (change-start f s c.requires.words_len));
}

pub packet_at-p-requires : goal.packet_at-p-requires
packet_at-p-requires g c = c.loop.invariant.cell

pub put_packet-requires : goal.put_packet-requires
put_packet-requires g c = (c.loop.invariant.cell, c.requires.short _ _ c.step.ensures c.packet_at-p.ensures.len_bound)

pub loop-preserved : goal.loop-preserved
loop-preserved g c = let l = c.loop in
    let t = state_of l.words in
    let left = c.tx_of-tx.result.txed_count - l.counter in
    let some : 0 < left = omega (arith, c.loop-test.true) in
    record {
      long = c.put_packet.array_long;
      cell = rw c.next_cell-at.ensures (next-cell-lt PACKETS l.at (omega arith));
      changing = λ f h.
          let q = h _ _ c.step.ensures ∙ ap f c.packet_at-p.ensures.value in
          let put = c.put_packet.ensures ∙ ap (λ (x : SentReliable). with_tx t (with_packets t.tx (set t.tx.txed_packets l.at x))) q in
          rw (c.next_cell-at.ensures, ← one-done c.tx_of-tx.result.txed_count l.counter) (change-turn f (state_of c.args.words.now) t _ l.at left (l.invariant.changing f h) some put);
    }

pub returns : goal.returns
returns g c = λ f h.
    let l = c.loop in
    change-end f (state_of c.args.words.now) (state_of l.words) l.at (c.tx_of-tx.result.txed_count - l.counter) (l.invariant.changing f h) (omega (arith, c.loop-test.false))
