-- What is left of the pattern and of the bytes gives the same answer at each turn, and the counter is the remainder of the index.
use mathlib.Core.Path.{◌≡◌}
use Prim.Native.Nat.{◌%◌}
use lib.ListN.{length, drop}
use Rattle.msg.specs.Messages.{pattern}
use Rattle.msg.specs.Reading.{opens_with}
use Rattle.msg.proofs.reading.is_pattern.Given as goal

abbrev pub invariant-loop-byte : goal.invariant-loop-byte
invariant-loop-byte l = (l.next ≡ l.byte-index % 256) × (opens_with (drop l.byte-index (pattern (length l.bytes))) (drop l.byte-index l.bytes) ≡ opens_with (pattern (length l.bytes)) l.bytes)
