-- The rows that are left give the same answer at each turn; a row's acks stand elsewhere, and are not looked at.
use Rattle.std.proofs.Common.{◌≡◌, ◌-◌}
use Rattle.engine.specs.Found.{rows_from}
use Rattle.words.specs.Meaning.{state_of}
use Rattle.judging.proofs.sound.rows_ok.Given as goal

abbrev pub invariant-loop-slot : goal.invariant-loop-slot
invariant-loop-slot l = rows_from (state_of l.words).links l.bytes-items l.time l.slot (8 - l.slot) ≡ rows_from (state_of l.words).links l.bytes-items l.time 0 8
