-- A far number is told, any other entered by its distance: its row is there, or its place.
use Rattle.std.specs.Prelude.{◌≡◌, Option, Some, None, List, ◌++◌, ℕ, ℤ, length, get_or, take}
use Rattle.std.specs.Option.{option_or}
use Rattle.std.specs.List.{refill}
use Rattle.std.proofs.Common.{refl, sym, ◌∙◌, ap, arith, rules, append-nil, drop_of_length-le}
use Rattle.std.proofs.Math.Seq.{take-length}
use Rattle.std.proofs.lemmas.List.Sorted.{answers_always}
use mir.Syntax.{w32}
use mir.ValLaws.{to_z-of_z}
use mir.Val.{to_z, of_z}
use Rattle.seq.specs.Distance.{distance_of, by-small}
use Rattle.comparing.specs.declared.table.Row.{Row}
use Rattle.comparing.specs.Ranks.{rank_by}
use Rattle.comparing.specs.Rows.{no_row, search-held}
use Rattle.comparing.specs.Table.{table_of, earliest, repeated, entered_at, entered_by, entered, entered-held}
use Rattle.comparing.proofs.table.Table.enter.Goals as goal

first_told : (line : Option ℕ) (next : ℕ) → option_or line (Some next) ≡ earliest line next
first_told None next = refl
first_told (Some told) next = refl

-- a slice that was written whole is what the vector has
refilled : (old new : List Row) → length new ≡ length old → refill (length old) old new ≡ new
refilled old new e =
    ap (λ l. take (length old) (new ++ l)) (drop_of_length-le old {i = length new} (omega arith))
    ∙ ap (take (length old)) (append-nil new)
    ∙ ap (λ n. take n new) (sym e)
    ∙ take-length new

pub returns-in_default : goal.returns-in_default
unfolding entered
returns-in_default c =
    let a = c.args in
    let t = table_of a.self.now in
    let e = sym c.distance.ensures ∙ c.in_default.is in
    ap (λ line. record { rows = t.rows; far = line; many = t.many }) (c.or-self.ensures ∙ first_told a.self.now.far a.m.line)
    ∙ sym (ap (λ x. entered_by x a.input.now t a.m) e)

pub repeat-requires : goal.repeat-requires
repeat-requires c = let range = c.in-Ok.ensures.bound in omega (arith, range, ap length c.deref.ensures.0, ap length c.deref_mut.ensures.value)

pub add-requires : goal.add-requires
add-requires c = let range = c.in-Err.ensures.bound in omega (arith, range, ap length c.deref.ensures.0)

-- the rank of the distance, where it was read back
module _ (m start : ℕ) (d : ℤ) (e : distance_of m start ≡ Some d) where
  same-rank : rank_by (to_z w32 (of_z w32 d)) ≡ rank_by d
  same-rank = ap rank_by (to_z-of_z w32 d (record { sfits = omega (arith, by-small m start d e) }))

pub returns-in-Ok : goal.returns-in-Ok
unfolding entered
returns-in-Ok c =
    let a = c.args in
    let t = table_of a.self.now in
    let d = c.in-Some.distance in
    let e = sym c.distance.ensures ∙ c.in-Some.is in
    let rank = c.rank-rank.ensures ∙ same-rank a.m.number.0 a.start.0 d e in
    let facts = c.binary_search_by_key.ensures in
    let by_key = facts.position (λ (x : Row). x.rank) (answers_always _ _ _ (λ f a r g called. search rules)) in
    let found = search-held c.rank-rank.result t.rows c.requires _ (rw c.deref.ensures.0 at facts.bound) (rw c.deref.ensures.0 at by_key) in
    let there = rw c.in-Ok.is at found in
    let i = c.in-Ok.i in
    let old = c.deref_mut.ensures.value in
    let rows = refilled t.rows c.repeat.new.rows (c.repeat.auto.rows ∙ ap length old) ∙ c.repeat.ensures ∙ ap (λ l. repeated a.input.now (get_or l i no_row).place a.m.at i l) old in
    ap (λ l. record { rows = l; far = t.far; many = t.many }) rows
    ∙ entered-held a.input.now c.rank-rank.result i a.m t (Some (_, _)) (sym there.1) (sym there.2)
    ∙ ap (λ r. entered_at a.input.now r a.m t) rank
    ∙ sym (ap (λ x. entered_by x a.input.now t a.m) e)

pub returns-in-Err : goal.returns-in-Err
unfolding entered
returns-in-Err c =
    let a = c.args in
    let t = table_of a.self.now in
    let d = c.in-Some.distance in
    let e = sym c.distance.ensures ∙ c.in-Some.is in
    let rank = c.rank-rank.ensures ∙ same-rank a.m.number.0 a.start.0 d e in
    let facts = c.binary_search_by_key.ensures in
    let by_key = facts.position (λ (x : Row). x.rank) (answers_always _ _ _ (λ f a r g called. search rules)) in
    let found = search-held c.rank-rank.result t.rows c.requires _ (rw c.deref.ensures.0 at facts.bound) (rw c.deref.ensures.0 at by_key) in
    let there = rw c.in-Err.is at found in
    c.add.ensures
    ∙ entered-held a.input.now c.rank-rank.result c.in-Err.i a.m t None (sym there.1) (sym there.2)
    ∙ ap (λ r. entered_at a.input.now r a.m t) rank
    ∙ sym (ap (λ x. entered_by x a.input.now t a.m) e)
