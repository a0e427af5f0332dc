-- A sound state has a cell for each number.
use mathlib.Core.Path.{ap, ◌∙◌}
use Prim.Native.Nat.{◌%◌}
use native.Mathlib.Omega.{arith}
use native.Mathlib.Nat.{mod-lt}
use Rattle.engine.specs.declared.state.Receiving.{Receiving}
use Rattle.engine.specs.CellCount.{cell-count}
use Rattle.words.specs.Meaning.{state_of}
use Rattle.words.specs.Ready.{ready-sound}
use Rattle.receiving_in_place.proofs.handing_out.start_of.Goals as goal

pub cell_at-requires : goal.cell_at-requires
cell_at-requires c = rw c.rx_of-rx.ensures (cell-count (state_of c.args.words.now).rx.cells (ready-sound c.args.words.now c.requires).cell-count).some

pub overflow_mul-result : goal.overflow_mul-result
overflow_mul-result c = let count = cell-count (state_of c.args.words.now).rx.cells (ready-sound c.args.words.now c.requires).cell-count in
    let at = c.cell_at.ensures ∙ ap (λ (rx : Receiving). c.args.seq.0 % rx.cells) c.rx_of-rx.ensures in
    omega (arith, at, mod-lt c.args.seq.0 count.some, count.few)

pub returns : goal.returns
returns c = simp (c.cell_at.ensures, c.rx_of-rx.ensures)
