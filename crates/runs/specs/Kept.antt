-- A call of a run leaves words and records that the next may be given: "Calls keep a sound state sound" (crate `laws`), and its records with it. Assumes nothing.
use Rattle.std.specs.Prelude.{◌≡◌, Bool, true, false, ◌&&◌, List, ℕ, eqb, leb, ltb, length, get_or, Some, None, Option}
use Rattle.msg.specs.declared.reliable.ReliableMsg.{ReliableMsg}
use Rattle.std.proofs.Common.{sym, ltb-true}
use Rattle.std.proofs.Math.Path.{subst}
use borrow.Table.Steps.{cases}
use Rattle.refusal.specs.Tests.{split}
use Rattle.engine.specs.declared.state.Receiving.{Receiving}
use Rattle.engine.specs.Decide.{soundb, recordsb, sound_withb, sound-true, records-sound, records-true}
use Rattle.engine.specs.Fields.{with_bytes}
use Rattle.engine.specs.Received.{table_of}
use Rattle.engine.specs.Sound.{SoundRecords}
use Rattle.engine.specs.Unconfirming.{unconfirmed_state, removed_state}
use Rattle.engine.specs.Flushing.{flushed_state}
use Rattle.engine.specs.Sending.{told_rx, sent_state}
use Rattle.engine.specs.Resending.{resent_state}
use Rattle.engine.specs.Acking.{acked_state}
use Rattle.engine.specs.Receiving.{repeated_state}
use Rattle.engine.specs.HandingOut.{taken_ack_state}
use Rattle.laws.specs.Good.{Good}
use Rattle.laws.specs.Calls.{Call, Add, Remove, Confirm, Unconfirm, Block, Mark, Ping, Pong, Flush, Send, Resend, Ack, Receive, Show, Take, Due, Close, TakeAck, EarliestConfirmTimeout, Holding, table, again, Typed, done, Passed}
use Rattle.laws.specs.Passed.{next-keeps, passed}
use Rattle.laws.specs.SoundKept.{kept}
use Rattle.laws.specs.ReceiveKept.{received-good}
use Rattle.laws.specs.TakeKept.{taken-good}
use Rattle.words.specs.Layout.{WORDS}
use Rattle.words.specs.Meaning.{state_of}
use Rattle.words.specs.Ready.{Words64, ready-sound, shaped-words}
use Rattle.receiving_in_place.specs.ReadyWith.{ReadyWith}
use Rattle.runs.specs.declared.answers.Answer.{Answer}
use Rattle.runs.specs.Asked.{Asked, It, NoCall, given, withinb, link_asked, send_asked, sending_asked, receive_asked, receiving_asked, reader_asked, asked_of, named, parted, slot_of}
use Rattle.runs.specs.Answers.{next_of}
use Rattle.runs.specs.Did.{holding_of, Did}

-- ---- the numbers of a call that is asked for have 32 bits

abbrev pub TypedAsked : Asked → Type 0
TypedAsked (It call) = Typed call
TypedAsked NoCall = Unit

send-typed : (g : Option ReliableMsg) (slot time from len : ℕ) (bytes : List ℕ) → TypedAsked (named g (λ msg. parted from len bytes (λ part. It (Send slot time msg part))))
send-typed (Some msg) slot time from len bytes = cases (withinb from len (length bytes)) (λ a. simp a tt) (λ a. simp a tt)
send-typed None slot time from len bytes = tt

receive-typed : (g : Option ReliableMsg) (slot n from len : ℕ) (bytes : List ℕ) → TypedAsked (named g (λ msg. parted from len bytes (λ part. It (Receive slot msg n part))))
receive-typed (Some msg) slot n from len bytes = cases (withinb from len (length bytes)) (λ a. simp a tt) (λ a. simp a tt)
receive-typed None slot n from len bytes = tt

module _ (xs bytes : List ℕ) where
  link-typed : TypedAsked (link_asked xs)
  unfolding link_asked
  link-typed =
      cases (eqb (get_or xs 0 0) 1) (λ t. simp t tt) (λ f. simp f
      (cases (eqb (get_or xs 0 0) 2) (λ t. simp t tt) (λ f. simp f
      (cases (eqb (get_or xs 0 0) 3) (λ t. simp t tt) (λ f. simp f
      (cases (eqb (get_or xs 0 0) 4) (λ t. simp t tt) (λ f. simp f
      (cases (eqb (get_or xs 0 0) 5) (λ t. simp t tt) (λ f. simp f
      (cases (eqb (get_or xs 0 0) 6) (λ t. simp t (cases (ltb (get_or xs 2 0) 4294967296) (λ a. simp a tt) (λ a. simp a tt))) (λ f. simp f
      (cases (eqb (get_or xs 0 0) 7) (λ t. simp t tt) (λ f. simp f
      (cases (eqb (get_or xs 0 0) 8) (λ t. simp t tt) (λ f. simp f
      (tt))))))))))))))))

  send-asked-typed : TypedAsked (send_asked xs bytes)
  unfolding send_asked
  send-asked-typed = send-typed (given (get_or xs 3 0) (get_or xs 4 0)) (slot_of (get_or xs 1 0)) (get_or xs 2 0) (get_or xs 5 0) (get_or xs 6 0) bytes

  sending-typed : TypedAsked (sending_asked xs bytes)
  unfolding sending_asked
  sending-typed =
      cases (eqb (get_or xs 0 0) 10) (λ t. simp t send-asked-typed) (λ f. simp f
      (cases (eqb (get_or xs 0 0) 12) (λ t. simp t (cases (ltb (get_or xs 3 0) 4294967296) (λ a. simp a (ltb-true (get_or xs 3 0) 4294967296 a)) (λ a. simp a tt))) (λ f. simp f
      (cases (eqb (get_or xs 0 0) 9) (λ t. simp t tt) (λ f. simp f
      (cases (eqb (get_or xs 0 0) 11) (λ t. simp t (cases (ltb (get_or xs 3 0) 4294967296) (λ a. simp a (ltb-true (get_or xs 3 0) 4294967296 a)) (λ a. simp a tt))) (λ f. simp f
      (tt))))))))

  receive-asked-typed : TypedAsked (receive_asked xs bytes)
  unfolding receive_asked
  receive-asked-typed =
      cases (ltb (get_or xs 3 0) 4294967296)
      (λ a. simp a (receive-typed (given (get_or xs 2 0) (get_or xs 4 0)) (slot_of (get_or xs 1 0)) (get_or xs 3 0) (get_or xs 5 0) (get_or xs 6 0) bytes))
      (λ a. simp a tt)

  receiving-typed : TypedAsked (receiving_asked xs bytes)
  unfolding receiving_asked
  receiving-typed =
      cases (eqb (get_or xs 0 0) 13) (λ t. simp t receive-asked-typed) (λ f. simp f
      (cases (eqb (get_or xs 0 0) 14) (λ t. simp t tt) (λ f. simp f
      (cases (eqb (get_or xs 0 0) 15) (λ t. simp t tt) (λ f. simp f
      (tt))))))

  reader-typed : TypedAsked (reader_asked xs)
  unfolding reader_asked
  reader-typed =
      cases (eqb (get_or xs 0 0) 16) (λ t. simp t tt) (λ f. simp f
      (cases (eqb (get_or xs 0 0) 17) (λ t. simp t tt) (λ f. simp f
      (cases (eqb (get_or xs 0 0) 18) (λ t. simp t tt) (λ f. simp f
      (cases (eqb (get_or xs 0 0) 19) (λ t. simp t tt) (λ f. simp f
      (tt))))))))

  pub asked-typed : TypedAsked (asked_of xs bytes)
  unfolding asked_of
  asked-typed =
      cases (leb (get_or xs 0 0) 8) (λ t. simp t link-typed) (λ f. simp f
      (cases (leb (get_or xs 0 0) 12) (λ t. simp t sending-typed) (λ f. simp f
      (cases (leb (get_or xs 0 0) 15) (λ t. simp t receiving-typed) (λ f. simp f reader-typed)))))

-- ---- records that are as many as the cells are sound

abbrev Recorded : Holding → Type 0
Recorded h = length h.records ≡ h.state.rx.cells → SoundRecords (table h)

-- whatever is taken and untold
told-recorded : (rx : Receiving) (untold : ℕ) (records : List ℕ) → SoundRecords (table_of rx records) → SoundRecords (table_of (with_bytes rx rx.rxed_reliable_size untold) records)
told-recorded rx untold records r = record {
  long = r.long;
  untaken = r.untaken;
  ready = r.ready;
  oldest = r.oldest;
  held = r.held;
  newest = r.newest;
  cell-length = r.cell-length;
  recorded = r.recorded;
}

done-recorded : (c : Call) (h : Holding) → Good h.state → Passed c h → Recorded h → Recorded (done c h)
unfolding unconfirmed_state removed_state flushed_state sent_state told_rx resent_state acked_state repeated_state taken_ack_state
done-recorded (Add id roundtrip max blocked unconfirmed) h g p r = r
done-recorded (Remove slot) h g p r = r
done-recorded (Confirm slot) h g p r = r
done-recorded (Unconfirm slot) h g p r = r
done-recorded (Block slot blocked) h g p r = r
done-recorded (Mark slot seq) h g p r = r
done-recorded (Ping slot time) h g p r = r
done-recorded (Pong slot time) h g p r = r
done-recorded (Flush slot time) h g p r = r
done-recorded (Send slot time msg bytes) h g p r = λ e. told-recorded h.state.rx _ h.records (r e)
done-recorded (Resend slot time n) h g p r = r
done-recorded (Ack slot time n) h g p r = r
done-recorded (Receive slot msg n bytes) h g p r =
    cases (again h n) (λ old. simp old r) (λ new. simp new (λ e. (received-good h.state g (length h.received) h.records slot msg n (length bytes) p new).records-sound))
done-recorded Show h g p r = r
done-recorded Take h g p r = λ e. (taken-good h.state g h.records _ _ _ p).records-sound
done-recorded Due h g p r = r
done-recorded Close h g p r = r
done-recorded (TakeAck slot) h g p r = r
done-recorded (EarliestConfirmTimeout timeout unreliable) h g p r = r

asked-good : (asked : Asked) (h : Holding) → TypedAsked asked → Good h.state → Good (next_of asked h).state
asked-good (It call) h t g = kept call h t g
asked-good NoCall h t g = g

asked-recorded : (asked : Asked) (h : Holding) → TypedAsked asked → Good h.state → Recorded h → Recorded (next_of asked h)
asked-recorded (It call) h t g r = next-keeps call h Recorded r (λ e. done-recorded call h g (passed call h t g e) r)
asked-recorded NoCall h t g r = r

both : (a b : Bool) → a ≡ true → b ≡ true → (a && b) ≡ true
both true b x y = y
both false b x y = x

module _ (w s v c : List ℕ) (r : ReadyWith w c) where
  held-recorded : Recorded (holding_of w s v c)
  unfolding sound_withb
  held-recorded e = records-sound (table_of (state_of w).rx c) (split (soundb (state_of w)) (recordsb (table_of (state_of w).rx c)) (r.recorded e)).1

  -- what a call leaves may be given to the next
  pub did-ready : (asked : Asked) (w2 s2 v2 c2 : List ℕ) (a : Answer) → TypedAsked asked → Words64 w → length w2 ≡ WORDS → Did asked w s v c w2 s2 v2 c2 a → ReadyWith w2 c2
  unfolding sound_withb
  did-ready asked w2 s2 v2 c2 a t small long d =
      let h = holding_of w s v c in
      let g : Good h.state = record { shaped = shaped-words w r.ready.long small; sound = ready-sound w r.ready } in
      let g2 : Good (holding_of w2 s2 v2 c2).state = subst (λ (k : Holding). Good k.state) (sym d.held) (asked-good asked h t g) in
      let r2 : Recorded (holding_of w2 s2 v2 c2) = subst Recorded (sym d.held) (asked-recorded asked h t g held-recorded) in
      let judged = sound-true (state_of w2) g2.sound in
      record {
        ready = record { long = long; judged = judged };
        recorded = λ e. both (soundb (state_of w2)) (recordsb (table_of (state_of w2).rx c2)) judged (records-true (table_of (state_of w2).rx c2) (r2 e));
      }
