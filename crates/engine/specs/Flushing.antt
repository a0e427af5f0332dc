-- Document 01, "Flush. Every Sent packet of the link without a flush time gets the present one." Assumes nothing.
use Rattle.std.specs.Prelude.{ℕ, cond, map, ◌==◌, Ok}
use Rattle.engine.specs.declared.state.SentReliableStatus.{SentReliableStatus}
use Rattle.engine.specs.declared.state.SentReliableStatus.TheVariants.{Sent, Received, ResendQueued}
use Rattle.engine.specs.declared.state.SentReliable.{SentReliable}
use Rattle.engine.specs.declared.state.State.{State}
use Rattle.engine.specs.declared.answer.Changed.{Changed}
use Rattle.engine.specs.Gates.{timed_verdict}
use Rattle.engine.specs.Answer.{changed_by}
use Rattle.engine.specs.Fields.{with_tx, with_time, flushed_flight}
use Rattle.engine.specs.Packets.{packets, restatused}
use Rattle.engine.specs.Table.{with_table}

-- what a flush makes of a status
unfoldable pub flushed : ℕ → ℕ → SentReliableStatus → SentReliableStatus
flushed slot time (Sent flight) = cond (flight.slot == slot) (Sent (flushed_flight flight time)) (Sent flight)
flushed slot time Received = Received
flushed slot time (ResendQueued link) = ResendQueued link

abbrev pub flushed_packet : ℕ → ℕ → SentReliable → SentReliable
flushed_packet slot time p = restatused (flushed slot time) p

unfoldable pub flushed_state : State → ℕ → ℕ → State
flushed_state s slot time = with_time (with_tx s (with_table s.tx (map (flushed_packet slot time) (packets s.tx)))) time

unfoldable pub flush_of : State → ℕ → ℕ → Changed
unfolding flushed_state
flush_of s slot time = changed_by (timed_verdict s slot time (Ok tt)) s (flushed_state s slot time)
