-- By whether the table holds the number; in a sound state what waits to be consumed stays small.
use Rattle.engine.specs.Acking.{acked_tx, ack-fits}
use Rattle.engine.specs.InTable.{looked-cell}
use Rattle.std.proofs.Common.{sym, ◌∙◌}
use Rattle.engine.proofs.Shapes.{shaped}
use Rattle.engine.proofs.acking.acked_tx.Goals as goal

pub returns-then-not-in_table : goal.returns-then-not-in_table
unfolding acked_tx
returns-then-not-in_table c = simp (sym c.in_table.ensures ∙ c.if-not-in_table.true)

pub settle_tx-requires : goal.settle_tx-requires
settle_tx-requires c =
    let a = c.args in
    let typed = shaped a.s c.well_formed.0 in
    let u32 = c.well_formed.1.1.0.1.1.0.1 in
    let here = sym c.in_table.ensures ∙ c.if-not-in_table.false in
    let cell = c.packet_of.ensures ∙ looked-cell a.s typed c.requires a.seq.0 u32 here in
    (rw cell (ack-fits a.s a.seq.0 typed c.requires u32 here), c.requires.packet-count)

pub returns : goal.returns
unfolding acked_tx
returns c =
    let a = c.args in
    let here = sym c.in_table.ensures ∙ c.if-not-in_table.false in
    let cell = c.packet_of.ensures ∙ looked-cell a.s (shaped a.s c.well_formed.0) c.requires a.seq.0 c.well_formed.1.1.0.1.1.0.1 here in
    simp (here, c.settle_tx.ensures, cell)
