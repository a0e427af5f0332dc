-- Document 01, "Numbers (003)": sums and differences of numbers wrap at 2^32; a difference is read as signed. A number's value is a
-- natural below 2^32, its field `.0`. Assumes nothing.
use Rattle.std.specs.Prelude.{ℕ, ◌+◌, ◌-◌, ◌%◌, ◌^◌, cond, ℤ, pos, negsuc, nat_lt}
use Rattle.seq.specs.declared.Seq.{Seq}

-- the sequence number of a value
abbrev pub seq_of : ℕ → Seq
seq_of n = record { 0 = n }

-- "Sums .. of numbers wrap at 2^32"
unfoldable pub plus : ℕ → ℕ → ℕ
plus a n = (a + n) % 2 ^ 32

-- "Sums and differences of numbers wrap at 2^32": what has to be added to b to come to a
unfoldable pub minus : ℕ → ℕ → ℕ
minus a b = (a + (2 ^ 32 - b)) % 2 ^ 32

-- "a difference is read as signed": below 2^31 as it is, else less 2^32 (`negsuc m` is −1 − m)
unfoldable pub signed : ℕ → ℤ
signed d = cond (nat_lt d (2 ^ 31)) (pos d) (negsuc (2 ^ 32 - 1 - d))

-- "`ZERO`, `MINUS_ONE` and `USABLE_INTERVAL` (65,536) belong to the number type itself."
abbrev pub USABLE_INTERVAL : ℕ
USABLE_INTERVAL = 65536
