-- Taking an ack, in two steps: the acks move one to the front, and the row's count is one less. Assumes nothing.
use Rattle.std.specs.Prelude.{◌≡◌, true, false, List, ℕ, ◌-◌, ◌<◌, eqb, length, get_or, Ok, Err}
use Rattle.std.proofs.Common.{ap, ◌∙◌, arith, get_or-set_same, set-set}
use borrow.Author.Tests.{eq-eqb, ne_eqb}
use Rattle.refusal.specs.declared.Refusal.TheVariants.{Slot, Nothing}
use Rattle.seq.specs.Numbers.{seq_of}
use Rattle.link.specs.declared.row.LinkRow.{LinkRow}
use Rattle.link.specs.Acks.{shifted, oldest_ack, ack_taken}
use Rattle.link.specs.Fields.{with_acks}
use Rattle.link.specs.Row.{no_row}
use Rattle.engine.specs.declared.state.State.{State}
use Rattle.engine.specs.Decide.{soundb}
use Rattle.engine.specs.Fields.{with_row}
use Rattle.engine.specs.HandingOut.{take_ack_verdict, ack_answer, taken_ack_state, take_ack_of}
use Rattle.engine.specs.Rows.{row_of, slot_ok, row-of}
use Rattle.engine.specs.Sizes.{SLOTS}
use Rattle.engine.specs.Sound.{row_at}
use Rattle.words.specs.Encoded.{bare}
use Rattle.words.specs.Layout.{WORDS, row_start}
use Rattle.words.specs.Meaning.{row_of as row_in, acks_in, links_in, decoded, state_of, stated}
use Rattle.words.specs.Parts.{part, entries-length}
use Rattle.links_in_place.specs.Gated.{slot_small}
use Rattle.links_in_place.specs.RowsBare.{over}

-- the words say eight rows
pub links-long : (w : List ℕ) → length w ≡ WORDS → length (state_of w).links ≡ SLOTS
unfolding decoded links_in
links-long w long = ap (λ (s : State). length s.links) (stated w long) ∙ entries-length (λ k. row_in (part (row_start k) 14 w) (acks_in w k)) 8

-- a row that was put is there, and gives way to the next
module _ (s : State) (slot : ℕ) (h : slot < length s.links) (q : LinkRow) where
  pub row_put : row_at (with_row s slot q) slot ≡ q
  row_put = get_or-set_same s.links slot q no_row h

  pub row-put-twice : (p : LinkRow) → with_row (with_row s slot q) slot p ≡ with_row s slot p
  row-put-twice p = ap (λ (l : List LinkRow). record { links = l; tx = s.tx; rx = s.rx; time = s.time; read_open = s.read_open }) (set-set s.links slot q p)

pub acks-dropped : (s : State) (slot : ℕ) (row : LinkRow) → slot < length s.links → row ≡ bare (row_at s slot) → 0 < row.ack_count
    → with_row (with_row s slot (with_acks (row_at s slot) (shifted (row_at s slot).tx_ack_queue) (row_at s slot).ack_count)) slot
    (over (row_at (with_row s slot (with_acks (row_at s slot) (shifted (row_at s slot).tx_ack_queue) (row_at s slot).ack_count)) slot) (with_acks row row.tx_ack_queue (row.ack_count - 1)))
    ≡ with_row s slot (ack_taken (row_at s slot))
unfolding ack_taken
acks-dropped s slot row h e pos =
    let r = row_at s slot in
    let q = with_acks r (shifted r.tx_ack_queue) r.ack_count in
    let some : eqb r.ack_count 0 ≡ false = ne_eqb _ _ (λ z. let k : row.ack_count ≡ 0 = ap (λ (x : LinkRow). x.ack_count) e ∙ z in omega arith) in
    ap (λ x. with_row (with_row s slot q) slot (over x (with_acks row row.tx_ack_queue (row.ack_count - 1)))) (row_put s slot h q)
    ∙ row-put-twice s slot h q _
    ∙ ap (λ (x : LinkRow). with_row s slot (over q (with_acks x x.tx_ack_queue (x.ack_count - 1)))) e
    ∙ simp some

module _ (s : State) (judged : soundb s ≡ true) (slot : ℕ) where
  pub ack-no-slot : slot_ok s slot ≡ false → take_ack_of s slot ≡ record { answer = Err Slot; state = s }
  unfolding take_ack_of ack_answer take_ack_verdict
  ack-no-slot e = simp (judged, e)

  module _ (here : slot_ok s slot ≡ true) where
    at_row : row_of s slot ≡ row_at s slot
    at_row = row-of s slot (slot_small s judged slot here)

    pub ack-none : (row_at s slot).ack_count ≡ 0 → take_ack_of s slot ≡ record { answer = Err Nothing; state = s }
    unfolding take_ack_of ack_answer take_ack_verdict oldest_ack
    ack-none e = simp (judged, here, at_row, eq-eqb _ _ e)

    pub ack-taken : ((row_at s slot).ack_count ≡ 0 → ⊥)
        → take_ack_of s slot ≡ record { answer = Ok (get_or (row_at s slot).tx_ack_queue 0 (seq_of 0)); state = with_row s slot (ack_taken (row_at s slot)) }
    unfolding take_ack_of ack_answer take_ack_verdict oldest_ack taken_ack_state
    ack-taken ne = simp (judged, here, at_row, ne_eqb _ _ ne)
