-- Every call that is given a state, by its name and with what it is given, and what it makes of a state, the two lent stores and the lent records:
-- the definitions that the calls' promises cite. A call that gives no state leaves all as it came. Assumes nothing.
use Rattle.std.specs.Prelude.{Bool, cond, List, [], ◌∷◌, ℕ, ◌^◌, ◌<◌, length, Some, Option, Ok}
use Rattle.refusal.specs.Verdicts.{Verdict}
use Rattle.seq.specs.declared.Seq.{Seq}
use Rattle.msg.specs.declared.reliable.ReliableMsg.{ReliableMsg}
use Rattle.link.specs.declared.timeout.AckTimeout.{AckTimeout}
use Rattle.engine.specs.declared.state.State.{State}
use Rattle.engine.specs.Links.{add_of, confirm_of, block_of, mark_of, ping_of, pong_of, add_verdict, lowest_in, AddPassed}
use Rattle.engine.specs.Unconfirming.{unconfirm_of, remove_of, unconfirmed_state, removed_state}
use Rattle.engine.specs.Sending.{send_of, send_store, send_verdict, sent_state, SendPassed}
use Rattle.engine.specs.Flushing.{flush_of, flushed_state}
use Rattle.engine.specs.Resending.{resend_of, resend_verdict, resent_state, ResendPassed}
use Rattle.engine.specs.Acking.{ack_verdict, AckPassed, ack_of, acked_state}
use Rattle.engine.specs.Receiving.{receive_of, receive_store, receive_records, receive_verdict, repeated_state, stored_table, received_state, ReceivePassed}
use Rattle.engine.specs.Closing.{close_of, closed_state}
use Rattle.engine.specs.Table.{looked_at}
use Rattle.engine.specs.Packets.{packets}
use Rattle.msg.specs.Reliable.{kind_of, count_of}
use Rattle.link.specs.Acks.{oldest_ack}
use Rattle.refusal.specs.Answers.{Told, told_by, flag}
use Rattle.engine.specs.HandingOut.{ready_values, ack_in, is_due, take_of, take_records, take_ack_of, ready_of, msg_in, data_length, show_verdict, take_verdict, taken_table, taken_state, Taking, take_ack_verdict, taken_ack_state, TakeAckPassed}
use Rattle.engine.specs.Deadlines.{first_sent, named_values, confirm_timeout_verdict}
use Rattle.link.specs.Row.{fresh_row, confirmed, blocked_row}
use Rattle.link.specs.Limit.{marked_row}
use Rattle.link.specs.Roundtrip.{pinged, ponged}
use Rattle.engine.specs.Gates.{state_verdict, slot_verdict, timed_verdict, AtSlot, AtTime}
use Rattle.engine.specs.Rows.{row_of}
use Rattle.engine.specs.Stores.{cell_start, copied}
use Rattle.engine.specs.Records.{held_bytes}
use Rattle.engine.specs.Received.{RxTable, table_of}
use Rattle.engine.specs.Cells.{is_repeat}
use Rattle.engine.specs.Sizes.{PACKETS}
use Rattle.engine.specs.Fields.{with_row, with_time}

pub data Call : Type 0 where
  Add : (id roundtrip : ℕ) (max : Option ℕ) (blocked unconfirmed : Bool) → Call
  Remove Confirm Unconfirm : (slot : ℕ) → Call
  Block : (slot : ℕ) (blocked : Bool) → Call
  Mark : (slot : ℕ) (seq : Seq) → Call
  Ping Pong Flush : (slot time : ℕ) → Call
  Send : (slot time : ℕ) (msg : ReliableMsg) (bytes : List ℕ) → Call
  Resend Ack : (slot time n : ℕ) → Call
  Receive : (slot : ℕ) (msg : ReliableMsg) (n : ℕ) (bytes : List ℕ) → Call
  Show Take Due Close : Call
  TakeAck : (slot : ℕ) → Call
  EarliestConfirmTimeout : (timeout : AckTimeout) (unreliable : Bool) → Call

-- what a caller holds: the state, the two stores that it lends, and the record space, which counts as a store ([8])
pub record Holding : Type 0 where
  pub state : State
  pub sent : List ℕ
  pub received : List ℕ
  pub records : List ℕ

abbrev pub with_state : Holding → State → Holding
with_state h s = record { state = s; sent = h.sent; received = h.received; records = h.records }

-- the receiving half with its records
abbrev pub table : Holding → RxTable
table h = table_of h.state.rx h.records

-- the refusals of each call, in the order of their numbers
abbrev pub verdict : Call → Holding → Verdict
verdict (Add id roundtrip max blocked unconfirmed) h = add_verdict h.state id roundtrip max
verdict (Remove slot) h = slot_verdict h.state slot
verdict (Confirm slot) h = slot_verdict h.state slot
verdict (Unconfirm slot) h = slot_verdict h.state slot
verdict (Block slot blocked) h = slot_verdict h.state slot
verdict (Mark slot seq) h = slot_verdict h.state slot
verdict (Ping slot time) h = timed_verdict h.state slot time (Ok tt)
verdict (Pong slot time) h = timed_verdict h.state slot time (Ok tt)
verdict (Flush slot time) h = timed_verdict h.state slot time (Ok tt)
verdict (Send slot time msg bytes) h = send_verdict h.state (length h.sent) slot time msg (length bytes)
verdict (Resend slot time n) h = resend_verdict h.state slot time n
verdict (Ack slot time n) h = ack_verdict h.state slot time n
verdict (Receive slot msg n bytes) h = receive_verdict h.state (length h.received) h.records slot msg n (length bytes)
verdict Show h = show_verdict h.state (length h.received) h.records
verdict Take h = take_verdict h.state h.records
verdict Due h = state_verdict h.state
verdict Close h = state_verdict h.state
verdict (TakeAck slot) h = take_ack_verdict h.state slot
verdict (EarliestConfirmTimeout timeout unreliable) h = confirm_timeout_verdict h.state timeout

-- what it tells where none applies
abbrev pub values : Call → Holding → List ℕ
values (Add id roundtrip max blocked unconfirmed) h = lowest_in h.state ∷ []
values (Remove slot) h = []
values (Confirm slot) h = []
values (Unconfirm slot) h = []
values (Block slot blocked) h = []
values (Mark slot seq) h = []
values (Ping slot time) h = []
values (Pong slot time) h = []
values (Flush slot time) h = []
values (Send slot time msg bytes) h = h.state.tx.tx_seq.0 ∷ []
values (Resend slot time n) h = let p = looked_at h.state.tx n in kind_of p.msg ∷ count_of p.msg ∷ p.len ∷ []
values (Ack slot time n) h = []
values (Receive slot msg n bytes) h = []
values Show h = ready_values (table h)
values Take h = ready_values (table h)
values Due h = flag (is_due h.state) ∷ []
values Close h = []
values (TakeAck slot) h = (ack_in (oldest_ack (row_of h.state slot))).0 ∷ []
values (EarliestConfirmTimeout timeout unreliable) h = named_values (first_sent (packets h.state.tx)) h.state timeout unreliable

-- the call's answer, in the paper's number and values
abbrev pub told : Call → Holding → Told
told c h = told_by (verdict c h) (values c h)

abbrev pub number : Call → Holding → ℕ
number c h = (told c h).number

-- state and stores after the call
abbrev pub next : Call → Holding → Holding
next (Add id roundtrip max blocked unconfirmed) h = with_state h (add_of h.state id roundtrip max blocked unconfirmed).state
next (Remove slot) h = with_state h (remove_of h.state slot).state
next (Confirm slot) h = with_state h (confirm_of h.state slot).state
next (Unconfirm slot) h = with_state h (unconfirm_of h.state slot).state
next (Block slot blocked) h = with_state h (block_of h.state slot blocked).state
next (Mark slot seq) h = with_state h (mark_of h.state slot seq).state
next (Ping slot time) h = with_state h (ping_of h.state slot time).state
next (Pong slot time) h = with_state h (pong_of h.state slot time).state
next (Flush slot time) h = with_state h (flush_of h.state slot time).state
next (Send slot time msg bytes) h = record {
  state = (send_of h.state (length h.sent) slot time msg (length bytes)).state;
  sent = send_store h.state h.sent slot time msg bytes;
  received = h.received;
  records = h.records;
}
next (Resend slot time n) h = with_state h (resend_of h.state slot time n).state
next (Ack slot time n) h = with_state h (ack_of h.state slot time n).state
next (Receive slot msg n bytes) h = record {
  state = (receive_of h.state (length h.received) h.records slot msg n (length bytes)).state;
  sent = h.sent;
  received = receive_store h.state h.received h.records slot msg n bytes;
  records = receive_records h.state (length h.received) h.records slot msg n (length bytes);
}
next Show h = h
next Take h = record { state = (take_of h.state h.records).state; sent = h.sent; received = h.received; records = take_records h.state h.records }
next Due h = h
next Close h = with_state h (close_of h.state).state
next (TakeAck slot) h = with_state h (take_ack_of h.state slot).state
next (EarliestConfirmTimeout timeout unreliable) h = h

-- what the type of a call's number says of it
abbrev pub Typed : Call → Type 0
Typed (Add id roundtrip max blocked unconfirmed) = Unit
Typed (Remove slot) = Unit
Typed (Confirm slot) = Unit
Typed (Unconfirm slot) = Unit
Typed (Block slot blocked) = Unit
Typed (Mark slot seq) = Unit
Typed (Ping slot time) = Unit
Typed (Pong slot time) = Unit
Typed (Flush slot time) = Unit
Typed (Send slot time msg bytes) = Unit
Typed (Resend slot time n) = n < 2 ^ 32
Typed (Ack slot time n) = n < 2 ^ 32
Typed (Receive slot msg n bytes) = Unit
Typed Show = Unit
Typed Take = Unit
Typed Due = Unit
Typed Close = Unit
Typed (TakeAck slot) = Unit
Typed (EarliestConfirmTimeout timeout unreliable) = Unit

-- the calls that are given what one likes in a run of two ends, and of which an observer writes nothing down (crate `ends`)
abbrev pub Unnoted : Call → Type 0
Unnoted (Add id roundtrip max blocked unconfirmed) = Unit
Unnoted (Remove slot) = Unit
Unnoted (Confirm slot) = Unit
Unnoted (Unconfirm slot) = Unit
Unnoted (Block slot blocked) = Unit
Unnoted (Mark slot seq) = Unit
Unnoted (Ping slot time) = Unit
Unnoted (Pong slot time) = Unit
Unnoted (Flush slot time) = Unit
Unnoted (Send slot time msg bytes) = ⊥
Unnoted (Resend slot time n) = ⊥
Unnoted (Ack slot time n) = ⊥
Unnoted (Receive slot msg n bytes) = ⊥
Unnoted Show = Unit
Unnoted Take = ⊥
Unnoted Due = Unit
Unnoted Close = Unit
Unnoted (TakeAck slot) = ⊥
Unnoted (EarliestConfirmTimeout timeout unreliable) = Unit

-- ---- what a call leaves where it passes: Passed shows that `next` goes by `verdict` and this

-- the oldest ready message's data bytes
abbrev pub ready_length : RxTable → ℕ
ready_length t = data_length (msg_in (ready_of t)) (held_bytes (ready_of t))

-- the number of a message was received already
abbrev pub again : Holding → ℕ → Bool
again h n = is_repeat h.state.rx.cells (table h) n

-- what each leaves where it passes
abbrev pub done : Call → Holding → Holding
done (Add id roundtrip max blocked unconfirmed) h = with_state h (with_row h.state (lowest_in h.state) (fresh_row id roundtrip max blocked unconfirmed))
done (Remove slot) h = with_state h (removed_state h.state slot)
done (Confirm slot) h = with_state h (with_row h.state slot (confirmed (row_of h.state slot)))
done (Unconfirm slot) h = with_state h (unconfirmed_state h.state slot)
done (Block slot blocked) h = with_state h (with_row h.state slot (blocked_row (row_of h.state slot) blocked))
done (Mark slot seq) h = with_state h (with_row h.state slot (marked_row (row_of h.state slot) (Some seq)))
done (Ping slot time) h = with_state h (with_time (with_row h.state slot (pinged (row_of h.state slot) time)) time)
done (Pong slot time) h = with_state h (with_time (with_row h.state slot (ponged (row_of h.state slot) time)) time)
done (Flush slot time) h = with_state h (flushed_state h.state slot time)
done (Send slot time msg bytes) h = record {
  state = sent_state h.state slot time msg (length bytes);
  sent = copied h.sent (cell_start PACKETS h.state.tx.tx_seq.0) bytes;
  received = h.received;
  records = h.records;
}
done (Resend slot time n) h = with_state h (resent_state h.state slot time n)
done (Ack slot time n) h = with_state h (acked_state h.state slot time n)
done (Receive slot msg n bytes) h = record {
  state = cond (again h n) (repeated_state h.state slot n) (received_state h.state h.records slot msg n (length bytes));
  sent = h.sent;
  received = cond (again h n) h.received (copied h.received (cell_start h.state.rx.cells n) bytes);
  records = cond (again h n) h.records (stored_table h.state h.records msg n (length bytes)).records;
}
done Show h = h
done Take h = record {
  state = taken_state h.state h.records (ready_length (table h));
  sent = h.sent;
  received = h.received;
  records = (taken_table h.state h.records (ready_length (table h))).records;
}
done Due h = h
done Close h = with_state h (closed_state h.state)
done (TakeAck slot) h = with_state h (taken_ack_state h.state slot)
done (EarliestConfirmTimeout timeout unreliable) h = h

-- all that an accepted call says of its arguments and of what is held
abbrev pub Passed : Call → Holding → Type 0
Passed (Add id roundtrip max blocked unconfirmed) h = AddPassed h.state id roundtrip max
Passed (Remove slot) h = AtSlot h.state slot
Passed (Confirm slot) h = AtSlot h.state slot
Passed (Unconfirm slot) h = AtSlot h.state slot
Passed (Block slot blocked) h = AtSlot h.state slot
Passed (Mark slot seq) h = AtSlot h.state slot
Passed (Ping slot time) h = AtTime h.state slot time
Passed (Pong slot time) h = AtTime h.state slot time
Passed (Flush slot time) h = AtTime h.state slot time
Passed (Send slot time msg bytes) h = SendPassed h.state (length h.sent) slot time msg (length bytes)
Passed (Resend slot time n) h = ResendPassed h.state slot time n
Passed (Ack slot time n) h = AckPassed h.state slot time n
Passed (Receive slot msg n bytes) h = ReceivePassed h.state (length h.received) h.records slot msg n (length bytes)
Passed Show h = Unit
Passed Take h = Taking h.state h.records (msg_in (ready_of (table h))) h.state.rx.rx_oldest (held_bytes (ready_of (table h)))
Passed Due h = Unit
Passed Close h = Unit
Passed (TakeAck slot) h = TakeAckPassed h.state slot
Passed (EarliestConfirmTimeout timeout unreliable) h = Unit
