-- The receive table: N cells that are gone round, number n in cell n mod N. A cell's record is a word of the lent record space. From the oldest
-- number up to the end the cells are in use; what they hold, in rising order of the numbers, is the table's view. N is the state's cell
-- count; nothing below depends on it. Assumes nothing.
use Rattle.std.specs.Prelude.{◌≡◌, ℕ, zero, suc, ◌+◌, ◌%◌, ◌^◌, ◌<◌, ◌≤◌, Bool, cond, List, [], ◌∷◌, map, length, nat_lt, slice_index, slice_index_or, refl, None}
use Rattle.engine.specs.Held.{Held}
use Rattle.std.proofs.Common.{sym, ◌∙◌, mod-lt, arith}
use Rattle.std.proofs.Math.Path.{ap}
use Rattle.std.proofs.Math.Nat.{mod-add-mod}
use borrow.Author.Tests.{ltb-true, ltb-false}
use borrow.Table.Steps.{cases}
use Rattle.seq.specs.Numbers.{plus}
use Rattle.seq.specs.Laws.{cell-counted}
use Rattle.seq.specs.Distance.{past, past-plus}
use Rattle.engine.specs.declared.state.Receiving.{Receiving}
use Rattle.engine.specs.CellCount.{CellCount}
use Rattle.engine.specs.Ring.{window, window-at, window-length}
use Rattle.engine.specs.Records.{held_bytes, held_of, held_none}

-- the receiving half of a state, and the records that are lent with it
pub record RxTable : Type 0 where
  pub rx : Receiving
  pub records : List ℕ

abbrev pub table_of : Receiving → List ℕ → RxTable
table_of rx records = record { rx = rx; records = records }

-- how far the next expected number is past the oldest, and how many cells are in use
abbrev pub expected_at : Receiving → ℕ
expected_at rx = past rx.rx_seq.0 rx.rx_oldest.0

abbrev pub in_use : Receiving → ℕ
in_use rx = past rx.rx_end.0 rx.rx_oldest.0

-- what the record of a number says: "A number's cell is its remainder by the cell count" ([8])
unfoldable pub held_at : ℕ → List ℕ → ℕ → Held
held_at N records n = held_of (slice_index records (n % N))

-- the number's cell is in use
unfoldable pub is_used : Receiving → ℕ → Bool
is_used rx n = nat_lt (past n rx.rx_oldest.0) (in_use rx)

-- what the number's cell holds: one that isn't in use holds nothing, whatever its record says
unfoldable pub cell_of : ℕ → RxTable → ℕ → Held
unfolding is_used held_at
cell_of N t n = cond (is_used t.rx n) (held_at N t.records n) None

-- the records in use, from the oldest number on, and what they say
abbrev pub record_view : ℕ → RxTable → List ℕ
record_view N t = window N 0 t.records (t.rx.rx_oldest.0 % N) (in_use t.rx)

abbrev pub cell_view : ℕ → RxTable → List Held
cell_view N t = map held_of (record_view N t)

-- the data bytes of a list of cells
unfoldable pub bytes_in : List Held → ℕ
bytes_in [] = 0
bytes_in (h ∷ hs) = held_bytes h + bytes_in hs

-- ---- laws

-- what stands at a place of the view; past its end, what an empty record says
pub held-map : (words : List ℕ) (k : ℕ) → slice_index_or (map held_of words) k None ≡ held_of (slice_index words k)
held-map [] k = sym held_none
held-map (w ∷ ws) zero = refl
held-map (w ∷ ws) (suc k) = held-map ws k

past_end : (words : List ℕ) (k : ℕ) → length words ≤ k → slice_index words k ≡ 0
past_end [] k h = refl
past_end (w ∷ ws) zero h = absurd (omega arith)
past_end (w ∷ ws) (suc k) h = past_end ws k (omega arith)

module _ (N : ℕ) (count : CellCount N) (t : RxTable) where
  abbrev o : ℕ
  o = t.rx.rx_oldest.0

  -- the record k numbers past the oldest is that number's
  pub view-record : (k : ℕ) → k < in_use t.rx → slice_index (record_view N t) k ≡ slice_index t.records (plus o k % N)
  view-record k h =
      window-at N 0 t.records (o % N) (in_use t.rx) k (mod-lt o count.some) h
      ∙ ap (λ m. slice_index t.records m) (mod-add-mod o N k ∙ sym (cell-counted N o k count.round))

  pub view-held : (k : ℕ) → k < in_use t.rx → slice_index_or (cell_view N t) k None ≡ held_at N t.records (plus o k)
  unfolding held_at
  view-held k h = held-map (record_view N t) k ∙ ap held_of (view-record k h)

  pub view-none : (k : ℕ) → in_use t.rx ≤ k → slice_index_or (cell_view N t) k None ≡ None
  view-none k h =
      let long = window-length N 0 t.records (o % N) (in_use t.rx) in
      held-map (record_view N t) k ∙ ap held_of (past_end (record_view N t) k (omega (arith, long))) ∙ held_none

  -- it is what that number's cell holds
  pub view-cell : o < 2 ^ 32 → (k : ℕ) → k < 2 ^ 30 → slice_index_or (cell_view N t) k None ≡ cell_of N t (plus o k)
  unfolding cell_of is_used
  view-cell ho k h =
      let at : past (plus o k) o ≡ k = past-plus o k ho h in
      cases (nat_lt k (in_use t.rx))
      (λ b. simp (at, b) (view-held k (ltb-true k (in_use t.rx) b)))
      (λ b. simp (at, b) (view-none k (omega (arith, ltb-false k (in_use t.rx) b))))
