-- The bytes so far are the pattern, and the counter is the remainder of the index.
use mathlib.Core.Path.{◌≡◌}
use Prim.Native.Nat.{◌%◌}
use lib.ListN.{take}
use Rattle.msg.specs.Messages.{pattern}
use Rattle.msg.proofs.writing.fill.Given as goal

abbrev pub invariant-loop-byte : goal.invariant-loop-byte
invariant-loop-byte l = (l.next ≡ l.byte-index % 256) × (take l.byte-index l.part ≡ pattern l.byte-index)
