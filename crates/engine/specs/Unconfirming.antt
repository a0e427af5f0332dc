-- Document 01, "Unconfirm" and "Removing unconfirms, then empties the slot." Assumes nothing.
use Rattle.std.specs.Prelude.{ℕ, cond, map, ◌==◌}
use Rattle.link.specs.Row.{empty_row, unconfirmed_row}
use Rattle.engine.specs.declared.state.SentReliableStatus.{SentReliableStatus}
use Rattle.engine.specs.declared.state.SentReliableStatus.TheVariants.{Sent, Received, ResendQueued}
use Rattle.engine.specs.declared.state.SentReliable.{SentReliable}
use Rattle.engine.specs.declared.state.State.{State}
use Rattle.engine.specs.declared.answer.Changed.{Changed}
use Rattle.engine.specs.Queue.{requeued}
use Rattle.engine.specs.Rows.{row_of}
use Rattle.engine.specs.Answer.{changed_by}
use Rattle.engine.specs.Gates.{slot_verdict}
use Rattle.engine.specs.Fields.{with_row, with_tx}
use Rattle.engine.specs.Packets.{packets, restatused}
use Rattle.engine.specs.Table.{with_table}

-- "Its Sent packets become ResendQueued, remembering the identity"
unfoldable pub unconfirmed : ℕ → SentReliableStatus → SentReliableStatus
unconfirmed slot (Sent flight) = cond (flight.slot == slot) (ResendQueued flight.link) (Sent flight)
unconfirmed slot Received = Received
unconfirmed slot (ResendQueued link) = ResendQueued link

abbrev pub unconfirmed_packet : ℕ → SentReliable → SentReliable
unconfirmed_packet slot p = restatused (unconfirmed slot) p

-- "The link becomes unconfirmed; its mark is cleared, its round trip and flag kept (P). .. the queue stays oldest first."
unfoldable pub unconfirmed_state : State → ℕ → State
unconfirmed_state s slot =
    with_tx (with_row s slot (unconfirmed_row (row_of s slot)))
    (requeued (with_table s.tx (map (unconfirmed_packet slot) (packets s.tx))))

unfoldable pub unconfirm_of : State → ℕ → Changed
unfolding unconfirmed_state
unconfirm_of s slot = changed_by (slot_verdict s slot) s (unconfirmed_state s slot)

-- "Removing unconfirms, then empties the slot."
unfoldable pub removed_state : State → ℕ → State
unfolding unconfirmed_state
removed_state s slot = with_row (unconfirmed_state s slot) slot empty_row

unfoldable pub remove_of : State → ℕ → Changed
unfolding removed_state
remove_of s slot = changed_by (slot_verdict s slot) s (removed_state s slot)
