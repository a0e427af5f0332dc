-- Document 01, Sound, of one row: "send, flush and ping times are at most the last accepted time; counts, lengths and times
-- are within their sizes." Times are at most 2^56, and 64 acks wait at most. Assumes nothing.
use Rattle.std.specs.Prelude.{Bool, true, ◌&&◌, ℕ, ◌^◌, leb, Some, None, Option}
use Rattle.link.specs.declared.row.LinkRow.{LinkRow}

-- "Times are nanoseconds, at most 2^56"; "64 waiting acks a link"
abbrev pub MAX_TIME : ℕ
MAX_TIME = 2 ^ 56

abbrev pub ACKS : ℕ
ACKS = 64

-- document 02, [1]: "Factors are 1 to 1,000"
abbrev pub MAX_FACTOR : ℕ
MAX_FACTOR = 1000

abbrev pub max_ping_within : Option ℕ → Bool
max_ping_within None = true
max_ping_within (Some limit) = leb limit MAX_TIME

abbrev pub ping_within : Option ℕ → ℕ → Bool
ping_within None time = true
ping_within (Some since) time = leb since time

unfoldable pub row_within : LinkRow → ℕ → Bool
row_within r time =
    leb r.roundtrip MAX_TIME
    && (max_ping_within r.max_ping && (ping_within r.current_ping_sent time && leb r.ack_count ACKS))
