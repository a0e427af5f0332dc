-- By the verdict, and by whether the number is a repeat; what was accepted stays within its cell.
use Rattle.std.proofs.Common.{◌*◌, ◌^◌, ◌<◌, sym, ap, ◌∙◌, mod-lt, arith}
use Rattle.engine.specs.Stores.{copied, mid-same}
use Rattle.engine.specs.CellCount.{cell-count}
use Rattle.engine.specs.Receiving.{receive-passed, storing, receive_of, received_state, receive_store, receive_records}
use Rattle.engine.specs.Sizes.{DATA_BYTES}
use Rattle.engine.proofs.Shapes.{shaped}
use Rattle.engine.proofs.receiving.receive.Goals as goal

pub is_repeat-requires : goal.is_repeat-requires
is_repeat-requires c = let a = c.args in
    let p = receive-passed a.s _ a.records.now a.slot a.msg a.seq.0 _ (sym c.receive_verdict-verdict.ensures ∙ c.in-Ok.is) in
    let count = cell-count a.s.rx.cells p.at.fine.cell-count in
    record { some = count.some; all = p.recorded.long }

pub returns-then-is_repeat : goal.returns-then-is_repeat
unfolding receive_of receive_store receive_records
returns-then-is_repeat c = let e = sym c.receive_verdict-verdict.ensures ∙ c.in-Ok.is in
    let r = sym c.is_repeat.ensures ∙ c.if-is_repeat.true in
    record { value = simp e (simp (r, c.repeated_state.ensures)); outcome_value = simp e; store_after = simp e (simp r); records_after = simp e (simp r) }

pub cell_at-start-requires : goal.cell_at-start-requires
cell_at-start-requires c = let a = c.args in
    let p = receive-passed a.s _ a.records.now a.slot a.msg a.seq.0 _ (sym c.receive_verdict-verdict.ensures ∙ c.in-Ok.is) in
    (cell-count a.s.rx.cells p.at.fine.cell-count).some

pub overflow_mul-start : goal.overflow_mul-start
overflow_mul-start c = let a = c.args in
    let p = receive-passed a.s _ a.records.now a.slot a.msg a.seq.0 _ (sym c.receive_verdict-verdict.ensures ∙ c.in-Ok.is) in
    let count = cell-count a.s.rx.cells p.at.fine.cell-count in
    let at = mod-lt a.seq.0 count.some in
    omega (arith, c.cell_at-start.ensures, at, count.few)

pub overflow_add-end : goal.overflow_add-end
overflow_add-end c = let a = c.args in
    let p = receive-passed a.s _ a.records.now a.slot a.msg a.seq.0 _ (sym c.receive_verdict-verdict.ensures ∙ c.in-Ok.is) in
    let count = cell-count a.s.rx.cells p.at.fine.cell-count in
    let at = mod-lt a.seq.0 count.some in
    omega (arith, c.cell_at-start.ensures, at, count.few, p.short)

pub slice_bounds-copy_from_slice-end : goal.slice_bounds-copy_from_slice-end
slice_bounds-copy_from_slice-end c = let a = c.args in
    let p = receive-passed a.s _ a.records.now a.slot a.msg a.seq.0 _ (sym c.receive_verdict-verdict.ensures ∙ c.in-Ok.is) in
    let count = cell-count a.s.rx.cells p.at.fine.cell-count in
    let at = mod-lt a.seq.0 count.some in
    omega (arith, c.cell_at-start.ensures, at, p.stored, p.short)

pub overflow_cast-len : goal.overflow_cast-len
overflow_cast-len c = let a = c.args in
    let p = receive-passed a.s _ a.records.now a.slot a.msg a.seq.0 _ (sym c.receive_verdict-verdict.ensures ∙ c.in-Ok.is) in
    omega (arith, p.short)

pub store_message-next-requires : goal.store_message-next-requires
store_message-next-requires c = let a = c.args in
    let p = receive-passed a.s _ a.records.now a.slot a.msg a.seq.0 _ (sym c.receive_verdict-verdict.ensures ∙ c.in-Ok.is) in
    let new = sym c.is_repeat.ensures ∙ c.if-is_repeat.false in
    let number : a.seq.0 < 2 ^ 32 = c.well_formed.1.1.1.1.1.0.1.1.0.1 in
    storing a.s _ a.records.now a.slot a.msg a.seq.0 _ (shaped a.s c.well_formed.0) number p new

pub received_state-requires : goal.received_state-requires
received_state-requires c = let a = c.args in
    let p = receive-passed a.s _ a.records.now a.slot a.msg a.seq.0 _ (sym c.receive_verdict-verdict.ensures ∙ c.in-Ok.is) in
    let new = sym c.is_repeat.ensures ∙ c.if-is_repeat.false in
    (p.new new).told

pub returns-in-Err : goal.returns-in-Err
unfolding receive_of receive_store receive_records
returns-in-Err c = let e = sym c.receive_verdict-verdict.ensures ∙ c.in-Err.is in
    record { value = simp e; outcome_value = simp e; store_after = simp e; records_after = simp e }

pub returns-else-is_repeat : goal.returns-else-is_repeat
unfolding receive_of received_state receive_store receive_records
returns-else-is_repeat c = let a = c.args in
    let e = sym c.receive_verdict-verdict.ensures ∙ c.in-Ok.is in
    let r = sym c.is_repeat.ensures ∙ c.if-is_repeat.false in
    let put = mid-same a.store.now a.payload.now _ (c.cell_at-start.result * DATA_BYTES) c.copy_from_slice.ensures.after in
    record { value = simp e (simp (r, c.received_state.ensures, c.store_message-next.ensures.value)); outcome_value = simp e; store_after = simp e (simp r (put ∙ ap (λ k. copied a.store.now (k * DATA_BYTES) a.payload.now) c.cell_at-start.ensures)); records_after = simp e (simp (r, c.store_message-next.ensures.records_after)) }
