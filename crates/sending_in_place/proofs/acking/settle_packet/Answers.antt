-- The tag of the packet in its cell, then the totals.
use mathlib.Core.Path.{◌≡◌, ap}
use native.Mathlib.Omega.{arith}
use Rattle.engine.specs.Table.{packet_of}
use Rattle.engine.specs.Acking.{received_tx}
use Rattle.words.specs.Meaning.{state_of}
use Rattle.sending_in_place.proofs.acking.settle_packet.Goals as goal

pub overflow_add-tx : goal.overflow_add-tx
overflow_add-tx c = let e : c.tx_of-tx.result.txed_unconsumable ≡ (state_of c.args.words.now).tx.txed_unconsumable = ap (λ n. n.txed_unconsumable) c.tx_of-tx.ensures in
    omega (arith, e, c.requires.1)

pub returns : goal.returns
unfolding received_tx packet_of
returns c = rw (c.put_txed_unconsumable.ensures, c.put_txed_unacked.ensures, c.put_received.ensures) (rw (c.less.ensures, c.cell_of.ensures.value, c.tx_of-tx.ensures, c.requires.0))
