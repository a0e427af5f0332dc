-- The table is full, or has room for one row more.
use Rattle.std.specs.Prelude.{◌≡◌, Option, Some, None, ℕ, length}
use Rattle.std.specs.Option.{option_or}
use Rattle.std.proofs.Common.{false, refl, sym, ◌∙◌, ap, arith, eqb-true}
use Rattle.std.proofs.lemmas.Bool.{eqb-false}
use Rattle.comparing.specs.Rows.{row, insert-is}
use Rattle.comparing.specs.Table.{table_of, earliest, added-room, added_full}
use Rattle.comparing.proofs.table.Table.add.Goals as goal

first_told : (line : Option ℕ) (next : ℕ) → option_or line (Some next) ≡ earliest line next
first_told None next = refl
first_told (Some told) next = refl

pub returns-then-is_full : goal.returns-then-is_full
returns-then-is_full c =
    let a = c.args in
    let t = table_of a.self.now in
    let full = eqb-true (length t.rows) 1024 (sym c.is_full.ensures.value ∙ c.if-is_full.true) in
    ap (λ line. record { rows = t.rows; far = t.far; many = line }) (c.or-self.ensures ∙ first_told a.self.now.many a.m.line)
    ∙ sym (added_full a.i a.rank a.m t (omega arith))

pub returns : goal.returns
returns c =
    let a = c.args in
    let t = table_of a.self.now in
    let room = eqb-false (length t.rows) 1024 (sym c.is_full.ensures.value ∙ c.if-is_full.false) in
    ap (λ l. record { rows = l; far = t.far; many = t.many }) (c.insert.ensures.items ∙ insert-is a.i (row a.rank a.m.at false) t.rows c.requires)
    ∙ sym (added-room a.i a.rank a.m t (omega (arith, c.is_full.ensures.fits)))
