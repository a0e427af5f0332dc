-- With sending stopped, a packet that was acked where it was Sent leaves the table, and an emptied table stays so. Assumes nothing.
use Rattle.std.specs.Prelude.{◌≡◌, refl, List, map, ℕ, ◌+◌, ◌-◌, ◌^◌, ◌≤◌, ◌<◌, get_or, drop, Ok}
use Rattle.std.proofs.Math.Path.{sym, ap, subst}
use Rattle.std.proofs.Common.{◌∙◌, arith, length-drop, get_or-drop}
use Rattle.std.proofs.Math.Bool.{true}
use Rattle.std.proofs.Math.Decide.{dec_lt}
use Rattle.std.proofs.Math.Dec.{eqb}
use Rattle.std.proofs.Math.ListN.{length}
use Rattle.std.proofs.lemmas.List.{length-map}
use borrow.Author.Tests.{eq-eqb, le-leb}
use borrow.Table.Steps.{cases}
use Rattle.seq.specs.Numbers.{plus}
use Rattle.seq.specs.Laws.{plus-lt}
use Rattle.seq.specs.Distance.{past, past-counted}
use Rattle.refusal.specs.Tests.{false-true, join}
use Rattle.engine.specs.declared.state.SentReliableStatus.{SentReliableStatus}
use Rattle.engine.specs.declared.state.SentReliableStatus.TheVariants as statuses
use Rattle.engine.specs.declared.state.SentReliable.{SentReliable}
use Rattle.engine.specs.declared.state.State.{State}
use Rattle.engine.specs.Answer.{done-passed}
use Rattle.engine.specs.Packets.{no_packet, packets, is_received}
use Rattle.engine.specs.Table.{in_table, looked_at}
use Rattle.engine.specs.InTable.{looked-cell}
use Rattle.engine.specs.Sending.{sent_state, sent_by, send_of}
use Rattle.engine.specs.Acking.{settled, acked_state, ack_verdict, ack_of}
use Rattle.laws.specs.Good.{Good}
use Rattle.laws.specs.Calls as calls
use Rattle.laws.specs.Calls.{Holding, next, done}
use Rattle.laws.specs.Passed.{next-keeps, answer_keeps, left_passed, passed}
use Rattle.laws.specs.PacketsKept.{packets-count, map_at}
use Rattle.laws.specs.PacketEffects.{restated, change_at, acked-packets, sweeps}
use Rattle.ends.specs.World.{End, World, holds, called, TimelyAck, given_by, send_at, resend_at, receive_at, take_at, take_ack_at, Call, Other, Send, Resend, Receive, Acked, Take, TakeAck}
use Rattle.ends.specs.Demand.{status_of, SentOver}
use Rattle.ends.specs.Inv.{way, Inv}
use Rattle.ends.specs.TxSteps.{longer}
use Rattle.ends.proofs.Sender.{ack-small}
use Rattle.ends.specs.Left.{TxLeft, other-left, number-place, resent-left, received-tx, taken-tx, took-ack-tx}

-- ---- over a list of packets: message j, of `given` ones, is Received, or no more in the table

abbrev DoneIn : ℕ → List SentReliable → ℕ → Type 0
DoneIn given ps j = (k : ℕ) → k < length ps → j + length ps ≡ given + k → is_received (get_or ps k no_packet).status ≡ true

module _ (given : ℕ) (ps : List SentReliable) (j : ℕ) where
  done-restated : (change : SentReliable → SentReliableStatus)
      → ((k : ℕ) → k < length ps → j + length ps ≡ given + k → is_received (change (get_or ps k no_packet)) ≡ true) → DoneIn given (map (restated change) ps) j
  done-restated change stays k l q =
      let long : length (map (restated change) ps) ≡ length ps = length-map ps (restated change) in
      let l' : k < length ps = omega (arith, long) in
      rw (map_at (restated change) no_packet ps k l') (stays k l' (omega (arith, long)))

  done-dropped : (gone : ℕ) → gone ≤ length ps → DoneIn given ps j → DoneIn given (drop gone ps) j
  done-dropped gone few d k l q =
      let long : length (drop gone ps) ≡ length ps - gone = length-drop gone ps in
      rw (get_or-drop gone ps k no_packet) (d (gone + k) (omega (arith, long)) (omega (arith, long)))

-- what is Received stays so
settled-received : (slot : ℕ) (st : SentReliableStatus) → is_received st ≡ true → is_received (settled slot st) ≡ true
unfolding settled
settled-received slot (statuses.Sent flight) r = false-true r
settled-received slot statuses.Received r = refl
settled-received slot (statuses.ResendQueued link) r = refl

over-settled : (slot : ℕ) (st : SentReliableStatus) → SentOver st slot → is_received (settled slot st) ≡ true
unfolding settled
over-settled slot (statuses.Sent flight) o = simp (eq-eqb flight.slot slot o)
over-settled slot statuses.Received o = absurd o
over-settled slot (statuses.ResendQueued link) o = absurd o

-- ---- message j of those that a was given

abbrev pub Done : End → ℕ → Type 0
Done x j = DoneIn (length x.given) (packets x.state.tx) j

module _ (W : World) (i : Inv (way W)) (good : Good W.a.state) (j : ℕ) where
  abbrev h : Holding
  h = holds W.a

  abbrev S : State
  S = W.a.state

  abbrev ps : List SentReliable
  ps = packets W.a.state.tx

  -- .. with what a call left
  abbrev DoneBy : Holding → Type 0
  DoneBy k = DoneIn (length W.a.given) (packets k.state.tx) j

  done-left : (k : Holding) → TxLeft h k → Done W.a j → DoneBy k
  done-left k l d =
      subst (λ (qs : List SentReliable). DoneIn (length W.a.given) qs j) (sym l.restates.is)
      (done-restated (length W.a.given) ps j l.restates.change (λ n x q. l.restates.same n x ∙ d n x q))

  -- an ack: where each packet of message j is Received once its status is settled
  done-acked : (slot time n : ℕ) → n < 2 ^ 32
      → ((k : ℕ) → k < length ps → j + length ps ≡ length W.a.given + k → is_received (change_at n (settled slot) (get_or ps k no_packet)) ≡ true)
      → DoneBy (done (calls.Ack slot time n) h)
  done-acked slot time n number stays =
      let qs = map (restated (change_at n (settled slot))) ps in
      let sw = sweeps qs in
      subst (λ (l : List SentReliable). DoneIn (length W.a.given) l j) (sym (acked-packets S good slot time n number ∙ sw.left))
      (done-dropped (length W.a.given) qs j sw.gone sw.within (done-restated (length W.a.given) ps j (change_at n (settled slot)) stays))

  -- a call by which nothing is given keeps what is done
  pub done-step : {X : World} → Call W X → length X.a.given ≡ length W.a.given → Done W.a j → Done X.a j
  unfolding send_at send_of resend_at receive_at take_at take_ack_at
  done-step (Other c u typed) quiet d = done-left (next c h) (other-left h good c u typed).tx d
  done-step (Send slot time m) quiet d =
      answer_keeps (calls.Send slot time m.kind m.bytes) h (λ v. (sent_by v S (sent_state S slot time m.kind (length m.bytes))).answer)
      (λ a k. length (given_by a W.a.given m) ≡ length W.a.given → DoneIn (length (given_by a W.a.given m)) (packets k.state.tx) j)
      (λ e more. absurd (omega (arith, more, longer W.a.given m))) (λ r same. d) quiet
  done-step (Resend slot time n number) quiet d =
      let c = calls.Resend slot time n in
      next-keeps c h DoneBy d (λ e. done-left (done c h) (resent-left h good slot time n number (passed c h number good e)).tx d)
  done-step (Receive slot p brought timely) quiet d =
      let c = calls.Receive slot p.msg.kind p.number p.msg.bytes in
      next-keeps c h DoneBy d (λ e. done-left (done c h) (received-tx h good slot p.msg.kind p.number p.msg.bytes) d)
  done-step (Acked slot time n brought timely) quiet d =
      next-keeps (calls.Ack slot time n) h DoneBy d
      (λ e. done-acked slot time n (ack-small W i good timely)
      (λ k l q. cases (eqb (get_or ps k no_packet).seq.0 n) (λ t. simp t (settled-received slot (get_or ps k no_packet).status (d k l q))) (λ t. simp t (d k l q))))
  done-step Take quiet d = next-keeps calls.Take h DoneBy d (λ e. done-left (done calls.Take h) (taken-tx h good) d)
  done-step (TakeAck slot) quiet d = next-keeps (calls.TakeAck slot) h DoneBy d (λ e. done-left (done (calls.TakeAck slot) h) (took-ack-tx h good slot) d)

  -- the packet of message j, by its number and in its place
  pub status-at : (k : ℕ) → k < length ps → j + length ps ≡ length W.a.given + k → status_of W j ≡ (get_or ps k no_packet).status
  unfolding in_table looked_at
  status-at k l q =
      let n = plus W.start j in
      let count = packets-count S.tx in
      let back : past S.tx.tx_seq.0 n ≡ length W.a.given - j =
      ap (λ x. past x n) i.txi.next-is ∙ past-counted W.start (length W.a.given) j (omega arith) (omega (arith, i.txi.room)) in
      let b = past S.tx.tx_seq.0 n in
      let held : in_table S.tx n ≡ true = join (le-leb 1 b (omega (arith, back))) (le-leb b S.tx.txed_count (omega (arith, back, count))) in
      let here = number-place h good k n (omega (arith, count)) (i.txi.each k j l q).number_is in
      ap (λ (p : SentReliable). p.status) (looked-cell S good.shaped good.sound n (plus-lt W.start j) held) ∙ ap (λ x. (get_or ps x no_packet).status) here

  -- an ack that comes where the packet was Sent
  pub done-now : (slot time n : ℕ) → TimelyAck n W.a W.b → n ≡ plus W.start j → SentOver (status_of W j) slot → (ack_of S slot time n).outcome ≡ Ok tt
      → Done (called W (calls.Ack slot time n)).a j
  unfolding ack_of
  done-now slot time n timely n-is over ok =
      let c = calls.Ack slot time n in
      let e = done-passed (ack_verdict S slot time n) S (acked_state S slot time n) ok in
      subst DoneBy (sym (left_passed c h e))
      (done-acked slot time n (ack-small W i good timely)
      (λ k l q.
      let st = (get_or ps k no_packet).status in
      let same : eqb (get_or ps k no_packet).seq.0 n ≡ true = eq-eqb _ n ((i.txi.each k j l q).number_is ∙ sym n-is) in
      simp same (over-settled slot st (subst (λ (x : SentReliableStatus). SentOver x slot) (status-at k l q) over))))

-- a table of which each packet is done is empty: the first isn't Received
pub all_done : (W : World) → Inv (way W) → Good W.a.state → ((j : ℕ) → j < length W.a.given → Done W.a j) → W.a.state.tx.txed_count ≡ 0
all_done W i good d = go (dec_lt 0 W.a.state.tx.txed_count)
  where
    go : Dec (0 < W.a.state.tx.txed_count) → W.a.state.tx.txed_count ≡ 0
    go (no y) = omega arith
    go (yes y) =
        let tx = W.a.state.tx in
        let count = packets-count tx in
        let j = length W.a.given - length (packets tx) in
        false-true (sym (good.sound.first y) ∙ d j (omega (arith, count, i.txi.within)) 0 (omega (arith, count)) (omega (arith, i.txi.within)))
