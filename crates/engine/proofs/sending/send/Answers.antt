-- By the verdict; what was accepted has room, so that the copy stays within the cell.
use Rattle.std.proofs.Common.{sym, arith}
use Rattle.engine.specs.Stores.{cell_start, mid-same}
use Rattle.engine.specs.Sending.{send-passed, send_of, send_store}
use Rattle.engine.specs.Sizes.{PACKETS}
use Rattle.engine.proofs.sending.send.Goals as goal

pub slice_bounds-copy_from_slice-end : goal.slice_bounds-copy_from_slice-end
slice_bounds-copy_from_slice-end c = let a = c.args in
    let p = send-passed a.s _ a.slot a.time a.msg _ (sym c.in-Ok.ensures) in
    omega (arith, p.stored, p.short)

pub overflow_cast-len : goal.overflow_cast-len
overflow_cast-len c = let a = c.args in
    let p = send-passed a.s _ a.slot a.time a.msg _ (sym c.in-Ok.ensures) in
    omega (arith, p.short)

pub sent_state-next-requires : goal.sent_state-next-requires
sent_state-next-requires c = let a = c.args in
    let p = send-passed a.s _ a.slot a.time a.msg _ (sym c.in-Ok.ensures) in
    p.room

pub returns-in-Err : goal.returns-in-Err
unfolding send_of send_store
returns-in-Err c = let e = sym c.in-Err.ensures in
    record { value = simp e; answer_value = simp e; store_after = simp e }

pub returns-in-Ok : goal.returns-in-Ok
unfolding send_of send_store
returns-in-Ok c = let a = c.args in
    let e = sym c.in-Ok.ensures in
    record { value = simp (e, c.sent_state-next.ensures); answer_value = simp e; store_after = simp (e, c.cell_at-start.ensures) (mid-same a.store.now a.payload.now _ (cell_start PACKETS a.s.tx.tx_seq.0) c.copy_from_slice.ensures.after) }
