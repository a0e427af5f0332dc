-- The mark's step, and then the packet's, where there is one.
use Rattle.engine.proofs.Shapes.{shaped}
use Rattle.engine.specs.Acking.{acked_row}
use Rattle.engine.specs.InTable.{looked-cell}
use Rattle.std.proofs.Common.{sym, ◌∙◌}
use Rattle.engine.proofs.acking.acked_row.Goals as goal

pub returns-then-not-in_table : goal.returns-then-not-in_table
unfolding acked_row
returns-then-not-in_table c = simp (sym c.in_table.ensures ∙ c.if-not-in_table.true, c.mark_acked-row.ensures, c.row_of.ensures)

pub returns : goal.returns
unfolding acked_row
returns c =
    let a = c.args in
    let here = sym c.in_table.ensures ∙ c.if-not-in_table.false in
    let cell = c.packet_of.ensures ∙ looked-cell a.s (shaped a.s c.well_formed.0) c.requires a.seq.0 c.well_formed.1.1.1.0.1.1.0.1 here in
    simp (here, c.settle_row.ensures, cell, c.mark_acked-row.ensures, c.row_of.ensures)
