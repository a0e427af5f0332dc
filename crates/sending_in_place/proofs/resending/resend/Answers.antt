-- By the verdict.
use borrow.Author.Rules.{rules}
use Rattle.std.specs.Prelude.{Err}
use Rattle.std.proofs.lemmas.Result.{err_from_is_err_and}
use mathlib.Core.Path.{refl, ◌≡◌, sym, ap, ◌∙◌}
use Prim.Native.Nat.{◌^◌, ◌<◌}
use native.Mathlib.Omega.{arith}
use lib.ListN.{get_or}
use Rattle.engine.specs.Packets.{no_packet}
use Rattle.engine.specs.Table.{packet_of, looked_at}
use Rattle.engine.specs.Resending.{resend_of, resend-cell}
use Rattle.words.specs.Meaning.{state_of}
use Rattle.words.specs.Ready.{shaped-words}
use Rattle.sending_in_place.proofs.resending.resend.Goals as goal

pub put_resent-requires : goal.put_resent-requires
unfolding packet_of
put_resent-requires c =
    let s = state_of c.args.words.now in
    let e = sym c.in_ok-resend_verdict.ensures in
    let u32 : c.args.seq.0 < 2 ^ 32 = omega (arith, c.well_formed) in
    let shaped = (shaped-words c.args.words.now c.requires.long (λ i. search rules)) in
    let here : c.packet_at-p.result ≡ looked_at s.tx c.args.seq.0 = c.packet_at-p.ensures.value ∙ ap (λ n. get_or s.tx.txed_packets n no_packet) c.cell_of.ensures.value ∙ resend-cell s c.args.slot c.args.time c.args.seq.0 shaped u32 e in
    (c.requires, e, here)

pub returns-in_err-resend_verdict : goal.returns-in_err-resend_verdict
unfolding resend_of
returns-in_err-resend_verdict c = let p = err_from_is_err_and c.from_residual.result c.from_residual.ensures.1 in
    simp (sym c.in_err-resend_verdict.ensures, p.1 ∙ ap Err p.2) record { value = refl; words_after = refl; left = λ ne. refl }

pub returns : goal.returns
unfolding resend_of packet_of
returns c =
    let s = state_of c.args.words.now in
    let e = sym c.in_ok-resend_verdict.ensures in
    let u32 : c.args.seq.0 < 2 ^ 32 = omega (arith, c.well_formed) in
    let shaped = (shaped-words c.args.words.now c.requires.long (λ i. search rules)) in
    let here : c.packet_at-p.result ≡ looked_at s.tx c.args.seq.0 = c.packet_at-p.ensures.value ∙ ap (λ n. get_or s.tx.txed_packets n no_packet) c.cell_of.ensures.value ∙ resend-cell s c.args.slot c.args.time c.args.seq.0 shaped u32 e in
    record { value = simp (e, here); words_after = simp (e, c.put_resent.ensures); left = λ ne. absurd (ne refl) }
