-- Each pair spells the next byte; what is left of the run spells the rest, and the buffer from there on is as it was.
use mathlib.Core.Path.{◌≡◌, refl, sym, ◌∙◌, ap}
use mathlib.Core.List.{◌++◌, append-nil}
use Prim.Native.Nat.{◌+◌, ◌*◌, ◌/◌, ◌≤◌, ◌<◌}
use lib.ListN.{length, take, drop, get_or, length-set}
use lib.Seq.{drop-set-lt, drop-drop}
use native.Mathlib.Omega.{arith}
use Rattle.std.specs.Prelude.{Some, None}
use Rattle.text.specs.Hex.{hex_byte}
use Rattle.text.specs.HexRun.{spelt, spells-good, spells-bad, spelt-good, spelt-bad, spells-even, spells-odd, spelt-end, hex-counted, hex-bad, hex-no-room, hex-left}
use Rattle.text.proofs.hex.read_hex.Goals as goal

pub returns-then-into-n : goal.returns-then-into-n
returns-then-into-n c =
    let whole = let a = c.args in hex-no-room a.run.now a.into.now c.if-into-n.true
    in record { value = whole.0; into_after = whole.1 }

pub returns-in_err-into : goal.returns-in_err-into
returns-in_err-into c = let l = c.loop-i in
    let a = c.args in
    let run = a.run.now in
    let e : hex_byte (get_or run (l.i * 2) 0) (get_or run (l.i * 2 + 1) 0) ≡ None = sym c.hex_byte.ensures ∙ c.in_err-into.was in
    let h : l.i * 2 + 1 < length run = omega arith in
    let room : length run / 2 ≤ length a.into.now = omega arith in
    let start : take l.i l.into ≡ spelt run = sym (append-nil (take l.i l.into)) ∙ sym (ap (λ r. take l.i l.into ++ r) (spelt-bad run l.i h e)) ∙ l.invariant.4 in
    record { value = c.from_residual.ensures ∙ hex-bad run (length a.into.now) room (sym l.invariant.3 ∙ spells-bad run l.i h e); into_after = hex-left run a.into.now l.into l.i room (omega arith) start l.invariant.5 }

pub loop-i-preserved : goal.loop-i-preserved
loop-i-preserved c = let l = c.loop-i in
    let a = c.args in
    let run = a.run.now in
    let b = c.in_ok-into.field-0 in
    let h : l.i * 2 + 1 < length run = omega arith in
    let e : hex_byte (get_or run (l.i * 2) 0) (get_or run (l.i * 2 + 1) 0) ≡ Some b = sym c.hex_byte.ensures ∙ c.in_ok-into.was in
    let rest : drop (l.i + 1) l.into ≡ drop (l.i + 1) a.into.now = sym (drop-drop 1 l.i l.into) ∙ ap (drop 1) l.invariant.5 ∙ drop-drop 1 l.i a.into.now in
    (simp length-set l.invariant.0, refl, simp length-set l.invariant.2, sym (spells-good run l.i h b e) ∙ l.invariant.3, spelt-good run l.i h l.into b (omega arith) e ∙ l.invariant.4, drop-set-lt (l.i + 1) l.into l.i b (omega arith) ∙ rest)

pub returns-then-run-ne0 : goal.returns-then-run-ne0
returns-then-run-ne0 c = let l = c.loop-i in
    let a = c.args in
    let run = a.run.now in
    let last : l.i ≡ length run / 2 = omega arith in
    let room : length run / 2 ≤ length a.into.now = omega arith in
    let start : take l.i l.into ≡ spelt run = sym (append-nil (take l.i l.into)) ∙ sym (ap (λ r. take l.i l.into ++ r) (ap (λ k. spelt (drop (k * 2) run)) last ∙ spelt-end run)) ∙ l.invariant.4 in
    record { value = hex-bad run (length a.into.now) room (sym (rw last at l.invariant.3) ∙ spells-odd run c.if-run-ne0.true); into_after = hex-left run a.into.now l.into l.i room (omega arith) start l.invariant.5 }

pub returns : goal.returns
returns c = let l = c.loop-i in
    let a = c.args in
    let run = a.run.now in
    let last : l.i ≡ length run / 2 = omega arith in
    let room : length run / 2 ≤ length a.into.now = omega arith in
    let start : take l.i l.into ≡ spelt run = sym (append-nil (take l.i l.into)) ∙ sym (ap (λ r. take l.i l.into ++ r) (ap (λ k. spelt (drop (k * 2) run)) last ∙ spelt-end run)) ∙ l.invariant.4 in
    record { value = hex-counted run (length a.into.now) room (sym (rw last at l.invariant.3) ∙ spells-even run c.if-run-ne0.false); into_after = hex-left run a.into.now l.into l.i room (omega arith) start l.invariant.5 }
