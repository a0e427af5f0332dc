-- What is left of the table, weighed on top of the tally so far, gives the same tally at each turn; a packet that is not well leaves none.
use Rattle.std.proofs.Common.{◌≡◌, ◌-◌, ◌%◌, true}
use Rattle.engine.specs.Roster.{roster_of}
use Rattle.engine.specs.Tally.{tally_of}
use Rattle.words.specs.Meaning.{state_of}
use Rattle.judging.specs.Weights.{clipped, pass_from}
use Rattle.judging.proofs.pass.tallied.Given as goal

abbrev pub invariant-loop : goal.invariant-loop
invariant-loop l = clipped (pass_from (state_of l.words) (l.n.0 % 64) (l.count - l.counter) l.n (record { ok = true; on = l.on; unacked = l.unacked; unconsumable = l.unconsumable; queued = l.queued })) ≡ clipped (tally_of (state_of l.words).tx (roster_of (state_of l.words).links) (state_of l.words).time)
