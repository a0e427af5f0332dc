-- What the code asks of the number's cell is what the paper asks of the queue.
use borrow.Author.Rules.{rules}
use Rattle.std.specs.Prelude.{Err}
use Rattle.std.proofs.Common.{◌≡◌, ◌^◌, ◌<◌, ◌&&◌, get_or, sym, ap, ◌∙◌, arith}
use Rattle.std.proofs.lemmas.Result.{err_from_is_err_and}
use Rattle.refusal.specs.Verdicts.{gate-pass}
use Rattle.engine.specs.declared.state.SentReliable.{SentReliable}
use Rattle.engine.specs.Packets.{no_packet, is_queued}
use Rattle.engine.specs.Table.{packet_of, in_table}
use Rattle.engine.specs.Resending.{resend-same}
use Rattle.words.specs.Meaning.{state_of}
use Rattle.words.specs.Ready.{shaped-words}
use Rattle.links_in_place.specs.Gated.{gate-stop}
use Rattle.sending_in_place.specs.Table.{held_in}
use Rattle.sending_in_place.specs.Timed.{timed-pass, timed-stop}
use Rattle.sending_in_place.proofs.resending.resend_verdict.Goals as goal
use Rattle.sending_in_place.proofs.resending.resend_verdict.Goals.{then-in_table, else-in_table}

pub returns-in_err-timed_verdict : goal.returns-in_err-timed_verdict
returns-in_err-timed_verdict c =
    let a = c.args in
    let s = state_of a.words.now in
    let u32 : a.seq.0 < 2 ^ 32 = omega (arith, c.well_formed) in
    let same = resend-same s a.slot a.time a.seq.0 (shaped-words a.words.now c.requires.long (λ i. search rules)) u32 in
    let p = err_from_is_err_and c.from_residual.result c.from_residual.ensures.1 in
    let x = c.in_err-timed_verdict.field-0.0 in
    p.1 ∙ ap Err p.2 ∙ sym (timed-stop s a.slot a.time _ x c.requires.judged (sym c.in_err-timed_verdict.ensures)) ∙ same

pub returns-in_err-refuse_unless : goal.returns-in_err-refuse_unless
unfolding in_table packet_of
returns-in_err-refuse_unless c =
    let a = c.args in
    let s = state_of a.words.now in
    let u32 : a.seq.0 < 2 ^ 32 = omega (arith, c.well_formed) in
    let same = resend-same s a.slot a.time a.seq.0 (shaped-words a.words.now c.requires.long (λ i. search rules)) u32 in
    let timed = sym c.in_ok-timed_verdict.ensures in
    let packet : c.packet_at-status.result ≡ packet_of s.tx a.seq.0 = c.packet_at-status.ensures.value ∙ ap (λ n. get_or s.tx.txed_packets n no_packet) c.cell_of.ensures.value in
    let table : c.in_table.result ≡ in_table s.tx a.seq.0 = c.in_table.ensures ∙ ap (λ n. held_in n a.seq.0) c.tx_of.ensures in
    let queued : (in_table s.tx a.seq.0 && is_queued (packet_of s.tx a.seq.0).status) ≡ c.if-in_table.queued = elim c.if-in_table.branch [
      | then-in_table w ↦ simp (sym table ∙ w.if-in_table.true) (ap (λ (p : SentReliable). is_queued p.status) (sym packet) ∙ sym w.is_queued-queued.ensures ∙ sym w.queued-is)
      | else-in_table w ↦ simp (sym table ∙ w.if-in_table.false) (sym w.if-in_table.false ∙ sym w.queued-is)
    ] in
    let stop = gate-stop c.if-in_table.queued _ _ (sym c.in_err-refuse_unless.ensures) in
    let p = err_from_is_err_and c.from_residual-in_err-refuse_unless.result c.from_residual-in_err-refuse_unless.ensures.1 in
    p.1 ∙ ap Err (p.2 ∙ stop.1) ∙ sym (timed-pass s a.slot a.time _ timed ∙ simp (queued ∙ stop.0)) ∙ same

pub returns : goal.returns
unfolding in_table packet_of
returns c =
    let a = c.args in
    let s = state_of a.words.now in
    let u32 : a.seq.0 < 2 ^ 32 = omega (arith, c.well_formed) in
    let same = resend-same s a.slot a.time a.seq.0 (shaped-words a.words.now c.requires.long (λ i. search rules)) u32 in
    let timed = sym c.in_ok-timed_verdict.ensures in
    let packet : c.packet_at-status.result ≡ packet_of s.tx a.seq.0 = c.packet_at-status.ensures.value ∙ ap (λ n. get_or s.tx.txed_packets n no_packet) c.cell_of.ensures.value in
    let table : c.in_table.result ≡ in_table s.tx a.seq.0 = c.in_table.ensures ∙ ap (λ n. held_in n a.seq.0) c.tx_of.ensures in
    let queued : (in_table s.tx a.seq.0 && is_queued (packet_of s.tx a.seq.0).status) ≡ c.if-in_table.queued = elim c.if-in_table.branch [
      | then-in_table w ↦ simp (sym table ∙ w.if-in_table.true) (ap (λ (p : SentReliable). is_queued p.status) (sym packet) ∙ sym w.is_queued-queued.ensures ∙ sym w.queued-is)
      | else-in_table w ↦ simp (sym table ∙ w.if-in_table.false) (sym w.if-in_table.false ∙ sym w.queued-is)
    ] in
    let some = (gate-pass c.if-in_table.queued _ _ (sym c.in_ok-refuse_unless.ensures)).0 in
    c.refuse_unless-2.ensures ∙ simp (c.last_link.ensures, c.row_of.ensures, packet) (sym (timed-pass s a.slot a.time _ timed ∙ simp (queued ∙ some))) ∙ same
