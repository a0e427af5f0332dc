-- What is gathered, with what the rest of the table adds, is the whole list at each turn.
use Rattle.std.proofs.Common.{◌≡◌, ◌-◌, length}
use Rattle.words.specs.Layout.{WORDS}
use Rattle.words.specs.Meaning.{state_of}
use Rattle.sending_in_place.specs.Requeue.{Requeuing}
use Rattle.sending_in_place.proofs.queue.gather.Given as goal

abbrev pub invariant-loop : goal.invariant-loop
invariant-loop l = (length l.words ≡ WORDS) × Requeuing (state_of l.initial.words) (state_of l.words) l.count l.at (l.end - l.counter)
