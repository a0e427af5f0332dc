-- What is gathered, with what the rest of the table adds, is the whole list at each turn.
use borrow.Author.Rules.{rules}
use Rattle.std.proofs.Common.{◌-◌, ◌%◌, ◌<◌, ℕ, subst, arith}
use Rattle.engine.specs.Packets.{first_of}
use Rattle.engine.specs.Sizes.{PACKETS}
use Rattle.words.specs.Meaning.{state_of}
use Rattle.words.specs.Ready.{shaped-words}
use Rattle.sending_in_place.specs.Changing.{none-done, one-done}
use Rattle.sending_in_place.specs.Requeue.{Requeuing, requeue-start, requeue-room, requeue-turn, requeue-end}
use Rattle.sending_in_place.proofs.queue.gather.Goals as goal

pub first_cell-at-requires : goal.first_cell-at-requires
first_cell-at-requires c =
    rw c.requires.0 c.requires.1

pub loop-init : goal.loop-init
loop-init c = let s = state_of c.args.words.now in
    (c.told-words, rw (c.first_cell-at.ensures.value, c.requires.0) (subst (λ (n : ℕ). Requeuing s s 0 (first_of s.tx % PACKETS) n) (none-done s.tx.txed_count) (requeue-start s c.requires.1 (shaped-words c.args.words.now c.told-words (λ i. search rules)).queue-full)))

pub packet_at-p-requires : goal.packet_at-p-requires
packet_at-p-requires c =
    let l = c.loop in
    l.invariant.1.cell

pub put_number-count-requires : goal.put_number-count-requires
put_number-count-requires c =
    let l = c.loop in
    let left = c.args.tx.txed_count - l.counter in
    let some : 0 < left = omega (arith, c.loop-test.true) in
    requeue-room (state_of c.args.words.now) (state_of l.words) l.count l.at left l.invariant.1 some

pub loop-preserved : goal.loop-preserved
loop-preserved c = let l = c.loop in
    let left = c.args.tx.txed_count - l.counter in
    let some : 0 < left = omega (arith, c.loop-test.true) in
    (c.put_number-count.array_long, rw (c.next_cell-at.ensures, c.put_number-count.ensures.value, ← one-done c.args.tx.txed_count l.counter) (requeue-turn (state_of c.args.words.now) (state_of l.words) l.count l.at left l.invariant.1 c.packet_at-p.result _ some c.packet_at-p.ensures.value c.put_number-count.ensures.words_after))

pub returns : goal.returns
returns c =
    let l = c.loop in
    let whole = requeue-end (state_of c.args.words.now) (state_of l.words) l.count l.at (c.args.tx.txed_count - l.counter) l.invariant.1 (omega (arith, c.loop-test.false))
    in record { value = whole.0; words_after = whole.1 }
