-- The table's promise at each packet, inside the state, and the time.
use Rattle.std.proofs.Common.{rules}
use Rattle.engine.proofs.Steps.{zip-map}
use Rattle.engine.specs.Flushing.{flushed_packet, flushed_state}
use Rattle.engine.proofs.flushing.flushed_state.Goals as goal

pub returns : goal.returns
unfolding flushed_state
returns c = let a = c.args in
    let e = c.with_each-tx.ensures in
    let same = zip-map _ (flushed_packet a.slot a.time) (λ p q k. search rules) _ e.0 e.1 in
    simp (e.2, same)
