-- Invariant: words and records are those of a sound state, and what is held and written is what the calls so far leave.
use Rattle.runs.specs.Runs.{Going}
use Rattle.runs.proofs.running.do_calls.Given as goal

abbrev pub invariant-loop-i : goal.invariant-loop-i
invariant-loop-i l = Going l.initial.words l.initial.sent l.initial.received l.initial.records l.initial.answers l.calls l.bytes l.count l.i l.words l.sent l.received l.records l.answers
