-- No row, a row of another rank, or this row.
use Rattle.std.specs.Prelude.{◌≡◌, Some, None, List, [], ◌∷◌, ℕ}
use Rattle.std.specs.List.{slice_get}
use Rattle.std.proofs.Common.{refl, sym, ◌∙◌, arith, eq-eqb, ne_eqb}
use Rattle.comparing.specs.declared.table.Row.{Row}
use Rattle.comparing.specs.Rows.{held_first}
use Rattle.comparing.proofs.listing.held_first.Goals as goal

none_held : (rank : ℕ) (rows : List Row) → slice_get rows 0 ≡ None → None ≡ held_first rank rows
unfolding held_first
none_held rank [] e = refl
none_held rank (x ∷ rest) e = let z : ◌≡◌ {A = ℕ} 0 1 = cc in absurd (omega arith)

same_held : (rank : ℕ) (row : Row) (rows : List Row) → slice_get rows 0 ≡ Some row → row.rank ≡ rank → Some (row.place, row.is_conflict) ≡ held_first rank rows
unfolding held_first
same_held rank row [] e same = let z : ◌≡◌ {A = ℕ} 0 1 = cc in absurd (omega arith)
same_held rank row (x ∷ rest) e same =
    let first : x ≡ row = cc in
    rw first (simp (eq-eqb row.rank rank same))

other_held : (rank : ℕ) (row : Row) (rows : List Row) → slice_get rows 0 ≡ Some row → (row.rank ≡ rank → ⊥) → None ≡ held_first rank rows
unfolding held_first
other_held rank row [] e other = let z : ◌≡◌ {A = ℕ} 0 1 = cc in absurd (omega arith)
other_held rank row (x ∷ rest) e other =
    let first : x ≡ row = cc in
    rw first (simp (ne_eqb row.rank rank other))

pub returns-in_err-row : goal.returns-in_err-row
returns-in_err-row c =
    let none : slice_get c.args.rows.now 0 ≡ None = sym c.in_err-row.ensures.value in
    c.from_residual.ensures ∙ none_held c.args.rank c.args.rows.now none

pub returns-then-row-rank : goal.returns-then-row-rank
returns-then-row-rank c =
    let some : slice_get c.args.rows.now 0 ≡ Some c.in_ok-row.row.now = sym c.in_ok-row.ensures.value in
    same_held c.args.rank c.in_ok-row.row.now c.args.rows.now some c.if-row-rank.true

pub returns-else-row-rank : goal.returns-else-row-rank
returns-else-row-rank c =
    let some : slice_get c.args.rows.now 0 ≡ Some c.in_ok-row.row.now = sym c.in_ok-row.ensures.value in
    other_held c.args.rank c.in_ok-row.row.now c.args.rows.now some c.if-row-rank.false
