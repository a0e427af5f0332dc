-- Each pair spells the next byte; what is left of the run spells the rest, and the buffer from there on is as it was.
use Rattle.std.proofs.Common.{◌≡◌, ◌++◌, ◌*◌, ◌/◌, ◌≤◌, length, take, drop}
use Rattle.text.specs.HexRun.{spells, spelt}
use Rattle.text.proofs.hex.read_hex.Given as goal

abbrev pub invariant-loop-i : goal.invariant-loop-i
invariant-loop-i l = (length l.into ≡ length l.initial.into)
    × (l.n ≡ length l.run / 2)
    × (l.n ≤ length l.into)
    × (spells (drop (l.i * 2) l.run) ≡ spells l.run)
    × (take l.i l.into ++ spelt (drop (l.i * 2) l.run) ≡ spelt l.run)
    × (drop l.i l.into ≡ drop l.i l.initial.into)
