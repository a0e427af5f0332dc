-- Document 01, the round trip: "noting a ping", "Pong" and "Ack of number a". Assumes nothing.
use Rattle.std.specs.Prelude.{Bool, false, cond, ℕ, ◌+◌, ◌-◌, ◌*◌, ◌/◌, ltb, Some, None, Option}
use Rattle.link.specs.declared.row.LinkRow.{LinkRow}
use Rattle.link.specs.Fields.{with_trip}

-- "the round trip r by elapsed e: the flag set gives e; e > r gives (r + 3e)/4; else (99r + e)/100, rounded down"
unfoldable pub trip_after : Bool → ℕ → ℕ → ℕ
trip_after flag r e = cond flag e (cond (ltb r e) ((r + 3 * e) / 4) ((99 * r + e) / 100))

abbrev pub with_ping : LinkRow → Option ℕ → LinkRow
with_ping r p = with_trip r r.roundtrip r.zero_estimate p

-- "noting a ping"
unfoldable pub pinged : LinkRow → ℕ → LinkRow
pinged r time = with_ping r (Some time)

-- "With a ping outstanding: the round trip is its age, flag and ping are cleared. With none, it is accepted"
unfoldable pub ponged_as : Option ℕ → LinkRow → ℕ → LinkRow
ponged_as None r time = r
ponged_as (Some since) r time = with_trip r (time - since) false None

abbrev pub ponged : LinkRow → ℕ → LinkRow
ponged r time = ponged_as r.current_ping_sent r time

-- "Only the first case moves the round trip r by elapsed e ..; then the flag is cleared (P)." Elapsed is the time given less
-- the time of the last sending.
unfoldable pub trip_moved : LinkRow → ℕ → ℕ → LinkRow
trip_moved r since time = with_trip r (trip_after r.zero_estimate r.roundtrip (time - since)) false r.current_ping_sent
