-- What is left of the table gives the same answer at each turn; the other numbers stay as they were.
use Rattle.std.proofs.Common.{◌≡◌, ◌-◌, ◌<◌}
use Rattle.engine.specs.Sizes.{PACKETS}
use Rattle.engine.specs.Ring.{window}
use Rattle.engine.specs.Packets.{no_packet}
use Rattle.engine.specs.Acking.{sweep_from, sweep_of}
use Rattle.words.specs.Meaning.{state_of}
use Rattle.words.specs.Encoded.{numbers_of}
use Rattle.sending_in_place.specs.Swept.{swept_to}
use Rattle.sending_in_place.proofs.acking.swept.Given as goal

abbrev pub invariant-loop : goal.invariant-loop
invariant-loop l = record {
  cell : l.at < PACKETS;
  same : l.tx ≡ swept_to (numbers_of (state_of l.words).tx) (l.end - l.counter) l.tx.txed_last_consumed l.tx.txed_unconsumable;
  rest : sweep_from (window PACKETS no_packet (state_of l.words).tx.txed_packets l.at (l.end - l.counter)) l.tx.txed_last_consumed l.tx.txed_unconsumable ≡ sweep_of (state_of l.words).tx;
}
