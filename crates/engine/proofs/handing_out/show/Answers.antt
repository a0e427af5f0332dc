-- What is shown lies within the store.
use Rattle.engine.specs.HandingOut.{shown_of, shown-within, part_same, shown_at}
use Rattle.std.proofs.Common.{sym, ◌∙◌, arith}
use Rattle.engine.proofs.Shapes.{shaped}
use Rattle.engine.proofs.handing_out.show.Goals as goal

pub cell_at-start-requires : goal.cell_at-start-requires
cell_at-start-requires c = let w = shown-within _ _ _ _ _ _ (shaped _ c.well_formed.0) (sym c.showing.ensures.value ∙ c.in-Ok.is) in
    w.0

pub overflow_mul-start : goal.overflow_mul-start
overflow_mul-start c = let w = shown-within _ _ _ _ _ _ (shaped _ c.well_formed.0) (sym c.showing.ensures.value ∙ c.in-Ok.is) in
    omega (arith, w.1, c.cell_at-start.ensures)

pub overflow_add-end : goal.overflow_add-end
overflow_add-end c = let w = shown-within _ _ _ _ _ _ (shaped _ c.well_formed.0) (sym c.showing.ensures.value ∙ c.in-Ok.is) in
    omega (arith, w.1, c.cell_at-start.ensures, c.data_length.ensures)

pub slice_bounds-result-end-in-Ok : goal.slice_bounds-result-end-in-Ok
slice_bounds-result-end-in-Ok c = let w = shown-within _ _ _ _ _ _ (shaped _ c.well_formed.0) (sym c.showing.ensures.value ∙ c.in-Ok.is) in
    omega (arith, w.1, c.cell_at-start.ensures, c.data_length.ensures)

pub returns-in-Err : goal.returns-in-Err
unfolding shown_of shown_at
returns-in-Err c = let e = sym c.showing.ensures.value ∙ c.in-Err.is in
    record { result_value = simp e; ref_ptr_value = simp e }

pub returns-in-Ok : goal.returns-in-Ok
unfolding shown_of shown_at
returns-in-Ok c = let e = sym c.showing.ensures.value ∙ c.in-Ok.is in
    record { result_value = simp (e, c.data_length.ensures, c.cell_at-start.ensures, part_same); ref_ptr_value = simp (e, c.cell_at-start.ensures) }
