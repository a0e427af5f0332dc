-- The rows that are left give the same answer at each turn; a row's acks stand elsewhere, and are not looked at.
use Rattle.std.proofs.Common.{◌≡◌, ◌+◌, ◌-◌, true, false, ◌&&◌, get_or, sym, ap, ◌∙◌, arith}
use Rattle.link.specs.Row.{no_row}
use Rattle.engine.specs.Found.{row_ok, rows_from, rows_step, rows_none}
use Rattle.words.specs.Meaning.{state_of}
use Rattle.judging.specs.Words.{bare-row}
use Rattle.judging.proofs.sound.rows_ok.Goals as goal

pub row_at-requires : goal.row_at-requires
row_at-requires c =
    omega arith

pub returns-then-not-row_ok : goal.returns-then-not-row_ok
returns-then-not-row_ok c = let a = c.args in
    let l = c.loop-slot in
    let links = (state_of a.words.now).links in
    let bad : row_ok (get_or links l.slot no_row) (get_or a.on l.slot 0) a.time ≡ false = sym (bare-row (get_or links l.slot no_row) (get_or a.on l.slot 0) a.time) ∙ ap (λ r. row_ok r (get_or a.on l.slot 0) a.time) (sym c.row_at.ensures) ∙ sym c.row_ok.ensures ∙ c.if-not-row_ok.true in
    sym (rows_step links a.on a.time l.slot (8 - l.slot) (omega arith) ∙ ap (λ b. b && rows_from links a.on a.time (l.slot + 1) (8 - l.slot - 1)) bad) ∙ l.invariant

pub loop-slot-preserved : goal.loop-slot-preserved
loop-slot-preserved c = let a = c.args in
    let l = c.loop-slot in
    let links = (state_of a.words.now).links in
    let good : row_ok (get_or links l.slot no_row) (get_or a.on l.slot 0) a.time ≡ true = sym (bare-row (get_or links l.slot no_row) (get_or a.on l.slot 0) a.time) ∙ ap (λ r. row_ok r (get_or a.on l.slot 0) a.time) (sym c.row_at.ensures) ∙ sym c.row_ok.ensures ∙ c.if-not-row_ok.false in
    let e : 8 - (l.slot + 1) ≡ 8 - l.slot - 1 = omega arith in
    ap (λ n. rows_from links a.on a.time (l.slot + 1) n) e ∙ sym (rows_step links a.on a.time l.slot (8 - l.slot) (omega arith) ∙ ap (λ b. b && rows_from links a.on a.time (l.slot + 1) (8 - l.slot - 1)) good) ∙ l.invariant

pub returns : goal.returns
returns c = let a = c.args in
    let l = c.loop-slot in
    sym (rows_none (state_of a.words.now).links a.on a.time l.slot (8 - l.slot) (omega arith)) ∙ l.invariant
