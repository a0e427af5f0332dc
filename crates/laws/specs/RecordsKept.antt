-- Document 02, [8]: the record space "counts as a store in demands 1 and 3". Records that are sound with the state stay so, whatever call is made, and those of a
-- fresh state are. Receiving and taking a message change them; every other call leaves them, and all that they are judged by. Assumes nothing.
use Rattle.std.specs.Prelude.{◌≡◌, List, [], ◌∷◌, ℕ, ◌^◌, ◌<◌, length, Ok}
use borrow.Table.Steps.{cases}
use Rattle.engine.specs.declared.state.Receiving.{Receiving}
use Rattle.engine.specs.Received.{table_of}
use Rattle.engine.specs.Sound.{SoundRecords}
use Rattle.engine.specs.Starting.{fresh_verdict, fresh_of, fresh_records}
use Rattle.engine.specs.Unconfirming.{unconfirmed_state, removed_state}
use Rattle.engine.specs.Flushing.{flushed_state}
use Rattle.engine.specs.Sending.{told_rx, sent_state}
use Rattle.engine.specs.Resending.{resent_state}
use Rattle.engine.specs.Acking.{acked_state}
use Rattle.engine.specs.Receiving.{repeated_state}
use Rattle.engine.specs.HandingOut.{taken_ack_state}
use Rattle.engine.specs.Fields.{with_bytes}
use Rattle.laws.specs.Good.{Good}
use Rattle.laws.specs.Calls.{Call, Add, Remove, Confirm, Unconfirm, Block, Mark, Ping, Pong, Flush, Send, Resend, Ack, Receive, Show, Take, Due, Close, TakeAck, EarliestConfirmTimeout, Holding, table, again, next, Typed, done, Passed}
use Rattle.laws.specs.Passed.{next-keeps, passed}
use Rattle.laws.specs.SoundKept.{kept-by, after, AllTyped}
use Rattle.laws.specs.ReceiveKept.{received-good}
use Rattle.laws.specs.TakeKept.{taken-good}
use Rattle.laws.specs.LinksKept as links

-- whatever is taken and untold
told-recorded : (rx : Receiving) (untold : ℕ) (records : List ℕ) → SoundRecords (table_of rx records) → SoundRecords (table_of (with_bytes rx rx.rxed_reliable_size untold) records)
told-recorded rx untold records r = record {
  long = r.long;
  untaken = r.untaken;
  ready = r.ready;
  oldest = r.oldest;
  held = r.held;
  newest = r.newest;
  cell-length = r.cell-length;
  recorded = r.recorded;
}

done-recorded : (c : Call) (h : Holding) → Good h.state → Passed c h → SoundRecords (table h) → SoundRecords (table (done c h))
unfolding unconfirmed_state removed_state flushed_state sent_state told_rx resent_state acked_state repeated_state taken_ack_state
done-recorded (Add id roundtrip max blocked unconfirmed) h g p r = r
done-recorded (Remove slot) h g p r = r
done-recorded (Confirm slot) h g p r = r
done-recorded (Unconfirm slot) h g p r = r
done-recorded (Block slot blocked) h g p r = r
done-recorded (Mark slot seq) h g p r = r
done-recorded (Ping slot time) h g p r = r
done-recorded (Pong slot time) h g p r = r
done-recorded (Flush slot time) h g p r = r
done-recorded (Send slot time msg bytes) h g p r = told-recorded h.state.rx _ h.records r
done-recorded (Resend slot time n) h g p r = r
done-recorded (Ack slot time n) h g p r = r
done-recorded (Receive slot msg n bytes) h g p r =
    cases (again h n) (λ old. simp old r) (λ new. simp new (received-good h.state g (length h.received) h.records slot msg n (length bytes) p new).records-sound)
done-recorded Show h g p r = r
done-recorded Take h g p r = (taken-good h.state g h.records _ _ _ p).records-sound
done-recorded Due h g p r = r
done-recorded Close h g p r = r
done-recorded (TakeAck slot) h g p r = r
done-recorded (EarliestConfirmTimeout timeout unreliable) h g p r = r

pub records-kept : (c : Call) (h : Holding) → Typed c → Good h.state → SoundRecords (table h) → SoundRecords (table (next c h))
records-kept c h t g r = next-keeps c h (λ k. SoundRecords (table k)) r (λ e. done-recorded c h g (passed c h t g e) r)

pub fresh-recorded : (start buffer cells : ℕ) → start < 2 ^ 32 → (records : List ℕ) → fresh_verdict buffer cells (length records) ≡ Ok tt
    → SoundRecords (table_of (fresh_of start buffer cells (length records)).state.rx (fresh_records buffer cells records))
fresh-recorded = links.fresh-recorded

-- .. and so in any order of calls
pub always-recorded : (cs : List Call) (h : Holding) → AllTyped cs → Good h.state → SoundRecords (table h) → SoundRecords (table (after cs h))
unfolding after
always-recorded [] h t g r = r
always-recorded (c ∷ cs) h t g r = always-recorded cs (next c h) t.1 (kept-by (λ slot time n p. p) c h t.0 g) (records-kept c h t.0 g r)
