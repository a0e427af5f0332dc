-- Document 01, "Slow links", of one row. Assumes nothing.
use Rattle.std.specs.Prelude.{Bool, true, false, not, ◌&&◌, ◌||◌, ltb, ℕ, Some, None, Option}
use Rattle.link.specs.declared.row.LinkRow.{LinkRow}

-- "live and confirmed"
unfoldable pub confirmed_link : LinkRow → Bool
confirmed_link r = r.live && not r.unconfirmed

abbrev pub above : Option ℕ → ℕ → Bool
above None trip = false
above (Some limit) trip = ltb limit trip

abbrev pub without : Option ℕ → Bool
without None = true
without (Some limit) = false

-- "with round trip above `max_ping`"
unfoldable pub above_max_ping : LinkRow → Bool
above_max_ping r = above r.max_ping r.roundtrip

-- "Slow here means blocked, or without `max_ping`, or above it."
unfoldable pub slow_row : LinkRow → Bool
slow_row r = r.blocked || without r.max_ping || above r.max_ping r.roundtrip
