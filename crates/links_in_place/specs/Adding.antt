-- Adding a link: what the identity words say, a slot's acks all 0, and what the call is refused by. Assumes nothing.
use Rattle.std.specs.Prelude.{◌≡◌, refl, Bool, true, false, ◌&&◌, cond, leb, ltb, Some, None, take, drop, Option, Ok, Err}
use Rattle.std.proofs.Common.{sym, ◌∙◌}
use Rattle.std.proofs.Math.Path.{ap}
use mathlib.Core.List.{List, ◌∷◌, map}
use Prim.Native.Nat.{ℕ, zero, suc, ◌+◌, ◌-◌, ◌*◌, ◌≤◌, ◌<◌}
use native.Mathlib.Omega.{arith}
use Rattle.std.proofs.Math.ListN.{length, get_or, replicate, length-replicate}
use Rattle.std.proofs.lemmas.Option.{cond_some}
use borrow.Table.Steps.{cases}
use borrow.Author.Tests.{lt-ltb, le-ltb, ltb-true, ltb-false}
use Rattle.refusal.specs.declared.Refusal.TheVariants.{Time, NoSlot, Identity}
use Rattle.seq.specs.declared.Seq.{Seq}
use Rattle.seq.specs.Numbers.{seq_of}
use Rattle.link.specs.declared.row.LinkRow.{LinkRow}
use Rattle.link.specs.Fields.{with_acks}
use Rattle.link.specs.Row.{fresh_row}
use Rattle.link.specs.Sizes.{MAX_TIME, max_ping_within}
use Rattle.engine.specs.declared.state.State.{State}
use Rattle.engine.specs.Decide.{soundb}
use Rattle.engine.specs.Fields.{with_row}
use Rattle.engine.specs.Links.{lowest_in, is_taken, add_verdict, add_of}
use Rattle.engine.specs.Rows.{slot_ok}
use Rattle.engine.specs.Sizes.{SLOTS}
use Rattle.engine.specs.Sound.{row_at}
use Rattle.words.specs.Encoded.{no_acks}
use Rattle.words.specs.Layout.{WORDS, row_start, acks_start}
use Rattle.words.specs.Meaning.{seq_word, row_of, state_of}
use Rattle.words.specs.Parts.{part, part_at, part_length, lent-part}
use Rattle.words.specs.Put.{lent, run}
use Rattle.words.specs.Read.{row_read}
use Rattle.words.specs.Written.{acks-written}
use Rattle.links_in_place.specs.Acks.{row_put, row-put-twice}
use Rattle.links_in_place.specs.RowsBare.{over}

-- the lowest slot without a link, where there is one
unfoldable pub lowest_slot : State → Option ℕ
lowest_slot s = cond (ltb (lowest_in s) SLOTS) (Some (lowest_in s)) None

pub slot_found : (s : State) (slot : ℕ) → lowest_slot s ≡ Some slot → (lowest_in s < SLOTS) × (slot ≡ lowest_in s)
unfolding lowest_slot
slot_found s slot e = let p = cond_some (ltb (lowest_in s) SLOTS) (lowest_in s) slot e in (ltb-true (lowest_in s) SLOTS p.0, sym p.1)

pub slot-none : (s : State) → lowest_slot s ≡ None → SLOTS ≤ lowest_in s
unfolding lowest_slot
slot-none s e = cases (ltb (lowest_in s) SLOTS)
    (λ t. let h : ◌≡◌ {A = Option ℕ} (Some (lowest_in s)) None = simp t at e in let z : ◌≡◌ {A = ℕ} 0 1 = cc in absurd (omega arith))
    (λ t. ltb-false (lowest_in s) SLOTS t)

pub slot-live : (s : State) (slot : ℕ) → slot < SLOTS → slot_ok s slot ≡ (row_at s slot).live
unfolding slot_ok
slot-live s slot h = simp (lt-ltb slot SLOTS h)

-- words of 0 are numbers 0
pub zero-numbers : (n : ℕ) → map seq_word (replicate n 0) ≡ replicate n (seq_of 0)
zero-numbers zero = refl
zero-numbers (suc n) = ap (λ (l : List Seq). seq_of 0 ∷ l) (zero-numbers n)

module _ (w : List ℕ) (long : length w ≡ WORDS) (j : ℕ) (lt : j < 8) where
  pub id-read : (row_at (state_of w) j).link_id ≡ get_or w (33 + j * 16) 0
  unfolding row_of
  id-read =
      let z : row_start j + 1 ≡ 33 + j * 16 = omega arith in
      ap (λ (r : LinkRow). r.link_id) (row_read w long j lt) ∙ part_at (row_start j) 14 1 w (omega arith) ∙ ap (λ n. get_or w n 0) z

  -- a slot's acks are lent, and come back as so many words of 0
  pub acks-cleared : (new : List ℕ) → new ≡ replicate (length (run w (acks_start j) 64)) 0
      → state_of (lent w (acks_start j) 64 new) ≡ with_row (state_of w) j (with_acks (row_at (state_of w) j) no_acks (row_at (state_of w) j).ack_count)
  unfolding row_of no_acks
  acks-cleared new e =
      let k : acks_start j + 64 - acks_start j ≡ 64 = omega arith in
      let n : length (run w (acks_start j) 64) ≡ 64 = ap (λ m. length (take m (drop (acks_start j) w))) k ∙ part_length (acks_start j) 64 w (omega arith) in
      let vs : List ℕ = replicate 64 0 in
      let full : length vs ≡ 64 = length-replicate {A = ℕ} 64 0 in
      ap (λ (l : List ℕ). state_of (lent w (acks_start j) 64 l)) (e ∙ ap (λ m. replicate m 0) n)
      ∙ ap state_of (lent-part w vs (acks_start j) 64 full)
      ∙ acks-written w long vs j lt full
      ∙ ap (λ (l : List Seq). with_row (state_of w) j (row_of (part (row_start j) 14 w) l)) (zero-numbers 64)
      ∙ ap (λ r. with_row (state_of w) j (with_acks r (replicate 64 (seq_of 0)) r.ack_count)) (sym (row_read w long j lt))

-- a row over one whose acks are 0
pub new_row : (s : State) (slot : ℕ) (row : LinkRow) → slot < length s.links
    → with_row (with_row s slot (with_acks (row_at s slot) no_acks (row_at s slot).ack_count)) slot
    (over (row_at (with_row s slot (with_acks (row_at s slot) no_acks (row_at s slot).ack_count)) slot) row)
    ≡ with_row s slot (with_acks row no_acks row.ack_count)
new_row s slot row h =
    let q = with_acks (row_at s slot) no_acks (row_at s slot).ack_count in
    ap (λ x. with_row (with_row s slot q) slot (over x row)) (row_put s slot h q) ∙ row-put-twice s slot h q (over q row)

-- a row that was just added has no acks
pub fresh-acks : (id roundtrip : ℕ) (max : Option ℕ) (blocked unconfirmed : Bool)
    → with_acks (fresh_row id roundtrip max blocked unconfirmed) no_acks (fresh_row id roundtrip max blocked unconfirmed).ack_count ≡ fresh_row id roundtrip max blocked unconfirmed
unfolding fresh_row no_acks
fresh-acks id roundtrip max blocked unconfirmed = refl

module _ (s : State) (judged : soundb s ≡ true) (id roundtrip : ℕ) (max : Option ℕ) (blocked unconfirmed : Bool) where
  pub add-no-time : (leb roundtrip MAX_TIME && max_ping_within max) ≡ false → add_of s id roundtrip max blocked unconfirmed ≡ record { answer = Err Time; state = s }
  unfolding add_of add_verdict
  add-no-time t = simp (judged, t)

  module _ (timed : (leb roundtrip MAX_TIME && max_ping_within max) ≡ true) where
    pub add-no-slot : SLOTS ≤ lowest_in s → add_of s id roundtrip max blocked unconfirmed ≡ record { answer = Err NoSlot; state = s }
    unfolding add_of add_verdict
    add-no-slot h = simp (judged, timed, le-ltb _ _ h)

    module _ (room : lowest_in s < SLOTS) where
      pub add-taken : is_taken s.links id ≡ true → add_of s id roundtrip max blocked unconfirmed ≡ record { answer = Err Identity; state = s }
      unfolding add_of add_verdict
      add-taken t = simp (judged, timed, lt-ltb _ _ room, t)

      pub add_done : is_taken s.links id ≡ false
          → add_of s id roundtrip max blocked unconfirmed ≡ record { answer = Ok (lowest_in s); state = with_row s (lowest_in s) (fresh_row id roundtrip max blocked unconfirmed) }
      unfolding add_of add_verdict
      add_done t = simp (judged, timed, lt-ltb _ _ room, t)
