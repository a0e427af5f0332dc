-- The packets that are left, changed in their places, give the same cells at each turn, by whatever function the step is.
use Rattle.std.proofs.Common.{◌≡◌, ◌-◌, ◌<◌, length}
use Rattle.engine.specs.declared.state.SentReliable.{SentReliable}
use Rattle.engine.specs.Sizes.{PACKETS}
use Rattle.words.specs.Layout.{WORDS}
use Rattle.words.specs.Meaning.{state_of}
use Rattle.sending_in_place.specs.Changing.{Changing}
use Rattle.sending_in_place.proofs.table.change_packets.Given as goal

abbrev pub invariant-loop : goal.invariant-loop
invariant-loop g l = record {
  long : length l.words ≡ WORDS;
  cell : l.at < PACKETS;
  changing : (f : SentReliable → SentReliable) → ((p : SentReliable) (q : SentReliable) → goal.F-post g l.step p q → q ≡ f p) → Changing f (state_of l.initial.words) (state_of l.words) l.at (l.end - l.counter);
}
