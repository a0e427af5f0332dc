-- The rows inside the state, and refusals 3 and 4. Assumes nothing.
use Rattle.std.specs.Prelude.{◌≡◌, ℕ, ◌<◌, Bool, cond, ◌&&◌, nat_le, nat_lt}
use Rattle.std.proofs.Common.{lt-ltb}
use Rattle.link.specs.declared.row.LinkRow.{LinkRow}
use Rattle.link.specs.Row.{empty_row}
use Rattle.link.specs.Sizes.{MAX_TIME}
use Rattle.engine.specs.declared.state.State.{State}
use Rattle.engine.specs.Sound.{row_at}
use Rattle.engine.specs.Sizes.{SLOTS}

-- the row of a slot; past the eight, an empty one
unfoldable pub row_of : State → ℕ → LinkRow
row_of s slot = cond (nat_lt slot SLOTS) (row_at s slot) empty_row

-- not "slot above 7, or empty" (4)
unfoldable pub slot_ok : State → ℕ → Bool
slot_ok s slot = nat_lt slot SLOTS && (row_at s slot).live

-- not "time before the last accepted one, or any time above 2^56" (3)
unfoldable pub time_ok : State → ℕ → Bool
time_ok s time = nat_le s.time time && nat_le time MAX_TIME

-- ---- laws

pub row-of : (s : State) (slot : ℕ) → slot < SLOTS → row_of s slot ≡ row_at s slot
unfolding row_of
row-of s slot h = simp (lt-ltb slot SLOTS h)
