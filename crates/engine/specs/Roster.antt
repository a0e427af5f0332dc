-- Who lives in which slot. Assumes nothing.
use Rattle.std.specs.Prelude.{◌≡◌, ℕ, zero, suc, ◌-◌, ◌<◌, ◌≤◌, Bool, true, false, cond, ◌&&◌, List, [], ◌∷◌, get_or, ◌==◌, nat_lt, slice_index, slice_index_or}
use Rattle.std.proofs.Math.Path.{refl, ap}
use Rattle.std.proofs.Common.{not-suc-le-zero}
use native.Mathlib.Omega.{arith}
use Rattle.link.specs.declared.row.LinkRow.{LinkRow}
use Rattle.link.specs.Row.{no_row}
use Rattle.engine.specs.declared.roster.Roster.{Roster}
use Rattle.engine.specs.Sizes.{SLOTS}

live_at : List LinkRow → ℕ → Bool
live_at links j = (get_or links j no_row).live

id_at : List LinkRow → ℕ → ℕ
id_at links j = (get_or links j no_row).link_id

unfoldable pub roster_of : List LinkRow → Roster
unfolding live_at id_at
roster_of links = record {
  live = live_at links 0 ∷ live_at links 1 ∷ live_at links 2 ∷ live_at links 3 ∷ live_at links 4 ∷ live_at links 5 ∷ live_at links 6 ∷ live_at links 7 ∷ [];
  ids = id_at links 0 ∷ id_at links 1 ∷ id_at links 2 ∷ id_at links 3 ∷ id_at links 4 ∷ id_at links 5 ∷ id_at links 6 ∷ id_at links 7 ∷ [];
}

-- a slot holds a live link with the identity
unfoldable pub lives_in : Roster → ℕ → ℕ → Bool
lives_in r slot id = nat_lt slot SLOTS && (slice_index_or r.live slot false && slice_index r.ids slot == id)

-- one of the first n slots does
unfoldable pub lives_before : Roster → ℕ → ℕ → Bool
unfolding lives_in
lives_before r zero id = false
lives_before r (suc n) id = cond (lives_in r n id) true (lives_before r n id)

-- ---- laws

module _ (r : Roster) (id : ℕ) where
  -- one slot less to look at
  pub lives-step : (n : ℕ) → 0 < n → lives_before r n id ≡ cond (lives_in r (n - 1) id) true (lives_before r (n - 1) id)
  unfolding lives_before
  lives-step zero h = absurd (not-suc-le-zero h)
  lives-step (suc n) h =
      let e : n ≡ suc n - 1 = omega arith in
      ap (λ m. cond (lives_in r m id) true (lives_before r m id)) e

  pub lives-none : (n : ℕ) → n ≤ 0 → lives_before r n id ≡ false
  unfolding lives_before
  lives-none zero h = refl
  lives-none (suc n) h = absurd (not-suc-le-zero h)
