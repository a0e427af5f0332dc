-- Which links are slow is not said by their acks. Assumes nothing.
use Rattle.std.proofs.Common.{arith}
use Rattle.std.specs.Prelude.{◌≡◌, refl, cond, ◌&&◌, List, [], ◌∷◌, map, ℕ, suc, ◌<◌, length, get_or}
use Rattle.std.proofs.Common.{sym, ap, ◌∙◌}
use Rattle.link.specs.declared.row.LinkRow.{LinkRow}
use Rattle.link.specs.Row.{no_row}
use Rattle.link.specs.Slow.{confirmed_link, above_max_ping, slow_row}
use Rattle.engine.specs.Slowness.{slow_if_confirmed, over_link, all_slow, over_slots, listed_in, slow_slots, slow_of, eight}
use Rattle.engine.specs.Sizes.{SLOTS}
use Rattle.words.specs.Encoded.{bare}

all-bare : (rows : List LinkRow) → all_slow (map bare rows) ≡ all_slow rows
unfolding all_slow confirmed_link slow_row
all-bare [] = refl
all-bare (row ∷ rows) = ap (λ x. slow_if_confirmed row && x) (all-bare rows)

over-bare : (slot : ℕ) (rows : List LinkRow) → over_slots slot (map bare rows) ≡ over_slots slot rows
unfolding over_slots confirmed_link above_max_ping
over-bare slot [] = refl
over-bare slot (row ∷ rows) = ap (λ (l : List ℕ). cond (over_link row) (slot ∷ l) l) (over-bare (suc slot) rows)

bare-slow : (rows : List LinkRow) → slow_of (map bare rows) ≡ slow_of rows
unfolding slow_of slow_slots
bare-slow rows = λ i. listed_in (cond (all-bare rows i) [] (over-bare 0 rows i))

-- eight rows, one by one
abbrev pub eight_of : List LinkRow → List LinkRow
eight_of rows =
    get_or rows 0 no_row ∷ get_or rows 1 no_row ∷ get_or rows 2 no_row ∷ get_or rows 3 no_row ∷ get_or rows 4 no_row ∷ get_or rows 5 no_row ∷ get_or rows 6 no_row ∷ get_or rows 7 no_row ∷ []

pub slow-bare : (rows : List LinkRow) → length rows ≡ SLOTS → slow_of (map bare (eight_of rows)) ≡ slow_of rows
slow-bare rows h = bare-slow (eight_of rows) ∙ ap slow_of (sym (eight rows h))

-- eight rows that are each a row of others without its acks
pub eight-bare : (ys rows : List LinkRow) → length ys ≡ SLOTS → ((i : ℕ) → i < SLOTS → get_or ys i no_row ≡ bare (get_or rows i no_row)) → ys ≡ map bare (eight_of rows)
eight-bare ys rows long one =
    eight ys long
    ∙ (λ i. one 0 (omega arith) i ∷ one 1 (omega arith) i ∷ one 2 (omega arith) i ∷ one 3 (omega arith) i ∷ one 4 (omega arith) i ∷ one 5 (omega arith) i ∷ one 6 (omega arith) i ∷ one 7 (omega arith) i ∷ [])
