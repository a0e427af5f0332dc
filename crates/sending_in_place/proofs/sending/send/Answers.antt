-- By the verdict; what was accepted has room, so that the copy stays within the cell.
use Rattle.std.specs.Prelude.{Err}
use Rattle.std.proofs.lemmas.Result.{err_from_is_err_and}
use mathlib.Core.Path.{refl, ◌≡◌, sym, ap, ◌∙◌}
use Prim.Native.Nat.{◌*◌, ◌%◌}
use native.Mathlib.Omega.{arith}
use Rattle.engine.specs.Sizes.{PACKETS, DATA_BYTES}
use Rattle.engine.specs.Sending.{send_of, send_store, send-passed}
use Rattle.engine.specs.Stores.{copied, mid-copied}
use Rattle.words.specs.Meaning.{state_of}
use borrow.Author.Rules.{rules}
use Rattle.sending_in_place.proofs.sending.send.Goals as goal

pub slice_bounds-copy-end : goal.slice_bounds-copy-end
slice_bounds-copy-end c = let p = send-passed (state_of c.args.words.now) _ c.args.slot c.args.time c.args.msg _ (sym c.in_ok-send_verdict.ensures) in
    omega (arith, p.stored, p.short, c.cell_of-start.ensures.upper_bound)

pub copy-requires : goal.copy-requires
copy-requires c = let p = send-passed (state_of c.args.words.now) _ c.args.slot c.args.time c.args.msg _ (sym c.in_ok-send_verdict.ensures) in
    (search rules, p.short)

pub overflow_cast-len : goal.overflow_cast-len
overflow_cast-len c = let p = send-passed (state_of c.args.words.now) _ c.args.slot c.args.time c.args.msg _ (sym c.in_ok-send_verdict.ensures) in
    omega (arith, p.short)

pub put_sent-requires : goal.put_sent-requires
put_sent-requires c =
    let p = send-passed (state_of c.args.words.now) _ c.args.slot c.args.time c.args.msg _ (sym c.in_ok-send_verdict.ensures) in
    (p.timed.at.small, omega (arith, p.short), p.room)

pub returns-in_err-send_verdict : goal.returns-in_err-send_verdict
unfolding send_of send_store
returns-in_err-send_verdict c = let p = err_from_is_err_and c.from_residual.result c.from_residual.ensures.1 in
    simp (sym c.in_err-send_verdict.ensures, p.1 ∙ ap Err p.2) record { value = refl; words_after = refl; store_after = refl; left = λ ne. refl }

pub returns : goal.returns
unfolding send_of send_store
returns c =
    let e = sym c.in_ok-send_verdict.ensures in
    let cell : c.cell_of-start.result ≡ (state_of c.args.words.now).tx.tx_seq.0 % PACKETS = c.cell_of-start.ensures.value ∙ ap (λ n. n.tx_seq.0 % PACKETS) c.tx_of.ensures in
    record { value = simp (e, c.tx_of.ensures); words_after = simp (e, c.put_sent.ensures); store_after = simp e (mid-copied c.args.store.now c.args.payload.now _ (c.cell_of-start.result * DATA_BYTES) c.copy.ensures ∙ ap (λ n. copied c.args.store.now (n * DATA_BYTES) c.args.payload.now) cell); left = λ ne. absurd (ne refl) }
