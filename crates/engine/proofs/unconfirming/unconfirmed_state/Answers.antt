-- The table's promise at each packet; the rest is each callee's.
use Rattle.std.proofs.Common.{rules}
use Rattle.engine.proofs.Steps.{zip-map}
use Rattle.engine.specs.Unconfirming.{unconfirmed_packet, unconfirmed_state}
use Rattle.engine.specs.Table.{with_table}
use Rattle.engine.proofs.unconfirming.unconfirmed_state.Goals as goal

pub requeue-requires : goal.requeue-requires
unfolding with_table
requeue-requires c = rw c.with_each-tx.ensures.2 c.requires

pub returns : goal.returns
unfolding unconfirmed_state
returns c = let a = c.args in
    let e = c.with_each-tx.ensures in
    let same = zip-map _ (unconfirmed_packet a.slot) (λ p q k. search rules) _ e.0 e.1 in
    simp (c.requeue.ensures, c.with_row.ensures, e.2, same, c.unconfirm-row.ensures, c.row_of.ensures)
