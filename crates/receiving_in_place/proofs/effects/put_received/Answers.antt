-- The row and the two halves, each by its own promise.
use mathlib.Core.Path.{sym, ap}
use lib.ListN.{set}
use Rattle.seq.specs.Numbers.{seq_of}
use Rattle.link.specs.Acks.{ack_queued}
use Rattle.engine.specs.declared.state.Receiving.{Receiving}
use Rattle.engine.specs.Fields.{with_parts}
use Rattle.engine.specs.Rows.{row_of}
use Rattle.engine.specs.Receiving.{effect_tx, effect_state, repeated_state}
use Rattle.words.specs.Meaning.{state_of}
use Rattle.receiving_in_place.proofs.effects.put_received.Goals as goal

pub put_effect-requires : goal.put_effect-requires
unfolding repeated_state
put_effect-requires c =
    rw c.queue_ack.ensures c.requires.3

pub returns : goal.returns
unfolding effect_state repeated_state
returns c = let a = c.args in
    let s = state_of a.words.now in
    rw (c.put_stored.ensures, c.put_effect.ensures, c.queue_ack.ensures)
    (ap (λ (rx : Receiving). with_parts s (set s.links a.slot (ack_queued (row_of s a.slot) (seq_of a.seq.0))) (effect_tx s.tx a.msg) rx s.time) (sym c.requires.1))
