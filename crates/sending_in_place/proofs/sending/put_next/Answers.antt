-- The packet in its cell, then the numbers that change.
use mathlib.Core.Path.{◌≡◌, ap}
use native.Mathlib.Omega.{arith}
use Rattle.engine.specs.Sending.{sent_tx}
use Rattle.words.specs.Meaning.{state_of}
use Rattle.sending_in_place.proofs.sending.put_next.Goals as goal

pub put_packet-requires : goal.put_packet-requires
put_packet-requires c =
    (c.cell_of.ensures.upper_bound, rw c.new-p.ensures c.requires.0)

pub overflow_add-tx : goal.overflow_add-tx
overflow_add-tx c = let e : c.tx_of-tx.result.txed_count ≡ (state_of c.args.words.now).tx.txed_count = ap (λ n. n.txed_count) c.tx_of-tx.ensures in
    omega (arith, e, c.requires.1)

pub overflow_add-tx-2 : goal.overflow_add-tx-2
overflow_add-tx-2 c = let e : c.tx_of-tx.result.txed_unacked ≡ (state_of c.args.words.now).tx.txed_unacked = ap (λ n. n.txed_unacked) c.tx_of-tx.ensures in
    omega (arith, e, c.requires.2)

pub overflow_add-tx-3 : goal.overflow_add-tx-3
overflow_add-tx-3 c = let e : c.tx_of-tx.result.txed_unconsumed ≡ (state_of c.args.words.now).tx.txed_unconsumed = ap (λ n. n.txed_unconsumed) c.tx_of-tx.ensures in
    omega (arith, e, c.requires.3)

pub returns : goal.returns
unfolding sent_tx
returns c = rw (c.put_finish.ensures, c.put_txed_unconsumed.ensures, c.put_txed_unacked.ensures, c.put_txed_count.ensures, c.put_tx_seq.ensures, c.put_packet.ensures) (rw (c.add.ensures, c.new-p.ensures, c.new.ensures, c.cell_of.ensures.value) (rw c.tx_of-tx.ensures))
