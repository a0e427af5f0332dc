-- What is left of the table gives the same answer at each turn.
use Rattle.std.proofs.Common.{◌≡◌, ◌-◌, ◌<◌}
use Rattle.engine.specs.Sizes.{PACKETS}
use Rattle.engine.specs.Ring.{window}
use Rattle.engine.specs.Packets.{no_packet, packets}
use Rattle.engine.specs.Deadlines.{first_sent}
use Rattle.words.specs.Meaning.{state_of}
use Rattle.sending_in_place.proofs.deadlines.first_sent.Given as goal

abbrev pub invariant-loop : goal.invariant-loop
invariant-loop l = (l.at < PACKETS) × (first_sent (window PACKETS no_packet (state_of l.words).tx.txed_packets l.at (l.end - l.counter)) ≡ first_sent (packets (state_of l.words).tx))
