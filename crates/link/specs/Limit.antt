-- Document 01, the limit mark: "setting the limit mark to any number", "Ack of number a" and "Resend"; document 02 [5]. Assumes nothing.
use Rattle.std.specs.Prelude.{◌≡◌, true, false, cond, ◌||◌, ℕ, ◌^◌, ◌<◌, eqb, Some, None, Option}
use Rattle.std.proofs.Common.{sym, ◌∙◌}
use borrow.Table.Steps.{cases}
use Rattle.seq.specs.declared.Seq.{Seq}
use Rattle.seq.specs.Numbers.{seq_of}
use Rattle.seq.specs.Distance.{near, before, far-unordered, far-turned, near-ordered}
use Rattle.link.specs.declared.row.LinkRow.{LinkRow}
use Rattle.link.specs.Fields.{with_trip, with_sending}

-- "setting the limit mark to any number": a plain change of a row
unfoldable pub marked_row : LinkRow → Option Seq → LinkRow
marked_row r m = with_sending r m r.txed_unacked_data

-- "First, a mark at or before a is cleared; any other mark makes the zero-estimate flag true."; 02 [5]: "A mark that is far from the ack is
-- cleared without setting the flag": any other is one that a is before
unfoldable pub mark_acked_as : Option Seq → LinkRow → ℕ → LinkRow
unfolding marked_row
mark_acked_as None r a = r
mark_acked_as (Some m) r a = cond (before a m.0) (with_trip r r.roundtrip true r.current_ping_sent) (marked_row r None)

abbrev pub mark_acked : LinkRow → ℕ → LinkRow
mark_acked r a = mark_acked_as r.limit_increased r a

-- "If the number is before the mark, the mark becomes the number."; 02 [5]: a mark "far from a resent number is kept"
unfoldable pub mark_resent_as : Option Seq → LinkRow → ℕ → LinkRow
unfolding marked_row
mark_resent_as None r n = r
mark_resent_as (Some m) r n = cond (before n m.0) (marked_row r (Some (seq_of n))) r

abbrev pub mark_resent : LinkRow → ℕ → LinkRow
mark_resent r n = mark_resent_as r.limit_increased r n

-- ---- laws

-- the two rules of an ack in the paper's words, and what a mark that is far from the number is to each
module _ (m : Seq) (r : LinkRow) (a : ℕ) (hm : m.0 < 2 ^ 32) (ha : a < 2 ^ 32) where
  pub mark-acked-near : near m.0 a ≡ true
      → mark_acked_as (Some m) r a ≡ cond (eqb m.0 a || before m.0 a) (marked_row r None) (with_trip r r.roundtrip true r.current_ping_sent)
  unfolding mark_acked_as
  mark-acked-near t = cases (eqb m.0 a || before m.0 a) (λ x. simp (near-ordered m.0 a hm ha t, x)) (λ x. simp (near-ordered m.0 a hm ha t, x))

  pub mark-acked-far : near m.0 a ≡ false → mark_acked_as (Some m) r a ≡ marked_row r None
  unfolding mark_acked_as
  mark-acked-far f = simp (far-unordered a m.0 (sym (far-turned m.0 a hm ha) ∙ f))

  pub mark-resent-far : near m.0 a ≡ false → mark_resent_as (Some m) r a ≡ r
  unfolding mark_resent_as
  mark-resent-far f = simp (far-unordered a m.0 (sym (far-turned m.0 a hm ha) ∙ f))
