-- A Data has no effect; of another three fields, each by the kind or the count.
use Rattle.std.proofs.Common.{◌≡◌, ◌||◌, eqb}
use Rattle.engine.specs.Receiving.{effect_tx}
use Rattle.words.specs.Meaning.{state_of}
use Rattle.receiving_in_place.specs.Acked.{data-effect}
use Rattle.receiving_in_place.proofs.effects.put_effect.Goals as goal
use Rattle.receiving_in_place.proofs.effects.put_effect.Goals.{then-tx, else-tx, then-tx-2, else-tx-2}

pub returns-in-Data : goal.returns-in-Data
returns-in-Data c = rw (c.in-Data.is, data-effect (state_of c.args.words.now).tx)

pub overflow_sub-next : goal.overflow_sub-next
overflow_sub-next c = rw (c.count.ensures, c.tx_of-tx.ensures) c.requires

pub returns : goal.returns
unfolding effect_tx
returns c = let tx = c.tx_of-tx.result in
    let finished : c.if-tx.finished ≡ (tx.send_finish_sent || eqb c.kind-kind.result 12) = elim c.if-tx.branch [ then-tx w ↦ simp (w.finished-is, w.if-tx.true) | else-tx w ↦ simp (w.finished-is, w.if-tx.false) ] in
    let closed : c.if-tx-2.closed ≡ (tx.write_closed || eqb c.kind-kind.result 11) = elim c.if-tx-2.branch [ then-tx-2 w ↦ simp (w.closed-is, w.if-tx-2.true) | else-tx-2 w ↦ simp (w.closed-is, w.if-tx-2.false) ] in
    rw c.put_tx.ensures (simp (finished, closed, c.count.ensures, c.kind-kind.ensures, c.tx_of-tx.ensures))
