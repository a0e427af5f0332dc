-- A row that is read from its words has none of its acks, and writing one leaves those that wait: each change of a row is the same change of the
-- row with them. Assumes nothing.
use Rattle.std.specs.Prelude.{◌≡◌, Bool, ℕ, ◌<◌, Some, None, Option}
use Rattle.seq.specs.declared.Seq.{Seq}
use Rattle.std.proofs.Math.Path.{refl}
use Rattle.std.proofs.Common.{sym, ap, ◌∙◌}
use borrow.Table.Steps.{cases}
use Rattle.seq.specs.Distance.{before}
use Rattle.link.specs.declared.row.LinkRow.{LinkRow}
use Rattle.link.specs.Fields.{with_acks}
use Rattle.link.specs.Row.{confirmed, blocked_row, unconfirmed_row, with_unacked}
use Rattle.link.specs.Limit.{marked_row, mark_acked_as, mark_acked, mark_resent_as, mark_resent}
use Rattle.link.specs.Roundtrip.{pinged, ponged_as, ponged, trip_moved}
use Rattle.engine.specs.declared.state.State.{State}
use Rattle.engine.specs.Fields.{with_row}
use Rattle.engine.specs.Rows.{row_of, row-of}
use Rattle.engine.specs.Sizes.{SLOTS}
use Rattle.engine.specs.Sound.{row_at}
use Rattle.words.specs.Encoded.{bare}

-- a row that was changed bare, written over r
abbrev pub over : LinkRow → LinkRow → LinkRow
over r q = with_acks q r.tx_ack_queue q.ack_count

module _ (r : LinkRow) where
  pub bare-confirmed : over r (confirmed (bare r)) ≡ confirmed r
  unfolding confirmed
  bare-confirmed = refl

  pub bare-blocked : (b : Bool) → over r (blocked_row (bare r) b) ≡ blocked_row r b
  unfolding blocked_row
  bare-blocked b = refl

  pub bare-unconfirmed : over r (unconfirmed_row (bare r)) ≡ unconfirmed_row r
  unfolding unconfirmed_row
  bare-unconfirmed = refl

  pub bare-unacked : (n : ℕ) → over r (with_unacked (bare r) n) ≡ with_unacked r n
  unfolding with_unacked
  bare-unacked n = refl

  pub bare-marked : (m : Option Seq) → over r (marked_row (bare r) m) ≡ marked_row r m
  unfolding marked_row
  bare-marked m = refl

  pub bare-pinged : (t : ℕ) → over r (pinged (bare r) t) ≡ pinged r t
  unfolding pinged
  bare-pinged t = refl

  pub bare-trip : (since t : ℕ) → over r (trip_moved (bare r) since t) ≡ trip_moved r since t
  unfolding trip_moved
  bare-trip since t = refl

  ponged-as : (p : Option ℕ) (t : ℕ) → over r (ponged_as p (bare r) t) ≡ ponged_as p r t
  unfolding ponged_as
  ponged-as None t = refl
  ponged-as (Some since) t = refl

  pub bare-ponged : (t : ℕ) → over r (ponged (bare r) t) ≡ ponged r t
  bare-ponged t = ponged-as r.current_ping_sent t

  pub acked-as : (m : Option Seq) (a : ℕ) → over r (mark_acked_as m (bare r) a) ≡ mark_acked_as m r a
  unfolding mark_acked_as
  acked-as None a = refl
  acked-as (Some m) a = cases (before a m.0) (λ t. simp t) (λ t. simp t)

  pub bare-acked : (a : ℕ) → over r (mark_acked (bare r) a) ≡ mark_acked r a
  bare-acked a = acked-as r.limit_increased a

  pub resent-as : (m : Option Seq) (n : ℕ) → over r (mark_resent_as m (bare r) n) ≡ mark_resent_as m r n
  unfolding mark_resent_as
  resent-as None n = refl
  resent-as (Some m) n = cases (before n m.0) (λ t. simp t) (λ t. simp t)

  pub bare-resent : (n : ℕ) → over r (mark_resent (bare r) n) ≡ mark_resent r n
  bare-resent n = resent-as r.limit_increased n

-- a slot's row, read bare, changed and written: q is the changed row as the code has it
pub row-changed : (s : State) (slot : ℕ) (F : LinkRow → LinkRow) (q : LinkRow) → slot < SLOTS → over (row_at s slot) (F (bare (row_at s slot))) ≡ F (row_at s slot) → q ≡ F (bare (row_at s slot))
    → with_row s slot (over (row_at s slot) q) ≡ with_row s slot (F (row_of s slot))
row-changed s slot F q h law e =
    ap (λ (x : LinkRow). with_row s slot (over (row_at s slot) x)) e ∙ ap (with_row s slot) (law ∙ ap F (sym (row-of s slot h)))
