-- By the answer.
use Rattle.std.proofs.Common.{eqb, length, sym, ap, ◌∙◌}
use Rattle.refusal.specs.Verdicts.{gate-pass}
use Rattle.engine.specs.CellCount.{cell-count}
use Rattle.engine.specs.Decide.{sound_withb}
use Rattle.engine.specs.Received.{table_of}
use Rattle.engine.specs.Receiving.{sound-lent}
use Rattle.engine.specs.HandingOut.{take_verdict, take_of, take_records, taking, hand-told, hand_out_told}
use Rattle.engine.proofs.handing_out.take.Goals as goal

pub hand_out-answer-requires : goal.hand_out-answer-requires
unfolding take_verdict
hand_out-answer-requires c = λ e.
    let s = c.args.s in
    let records = c.args.records.now in
    let e2 = gate-pass (eqb (length records) s.rx.cells) _ _ (sym c.take_verdict.ensures ∙ e) in
    sound-lent s records (gate-pass (sound_withb s records) _ _ e2.1).0

pub take_message-next-requires : goal.take_message-next-requires
take_message-next-requires c = let s = c.args.s in
    let m = c.in-Ok in
    let t = taking s c.args.records.now m.msg m.field-0-1 m.len (rw (← c.take_verdict.ensures) (sym c.hand_out-answer.ensures ∙ c.in-Ok.is)) in
    (record { some = (cell-count s.rx.cells t.fine.cell-count).some; all = t.recorded.long }, rw c.data_length.ensures t.total)

pub returns-in-Err : goal.returns-in-Err
unfolding take_of take_records
returns-in-Err c = let v = sym c.take_verdict.ensures in
    let h = sym c.hand_out-answer.ensures in
    let m = c.in-Err.is in record { value = simp (v, h, m); answer_value = hand-told c.take_verdict.result _ (table_of c.args.s.rx c.args.records.now) c.hand_out-answer.ensures c.take_verdict.ensures; records_after = simp (v, h, m) }

pub returns-in-Ok : goal.returns-in-Ok
unfolding take_of take_records
returns-in-Ok c = let v = sym c.take_verdict.ensures in
    let h = sym c.hand_out-answer.ensures in
    let m = c.in-Ok.is in record { value = simp (v, h, m, c.with_rx.ensures, c.take_message-next.ensures.value, c.data_length.ensures); answer_value = ap hand_out_told (sym c.in-Ok.is) ∙ hand-told c.take_verdict.result _ (table_of c.args.s.rx c.args.records.now) c.hand_out-answer.ensures c.take_verdict.ensures; records_after = simp (v, h, m, c.take_message-next.ensures.records_after, c.data_length.ensures) }
