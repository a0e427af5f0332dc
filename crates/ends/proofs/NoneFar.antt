-- In every run of two ends no Receive and no ack is refused with 22. Assumes nothing.
use Rattle.std.specs.Prelude.{◌≡◌, true, ℕ, length}
use Rattle.std.proofs.Common.{sym, ap₂, ◌∙◌, true≢false, arith}
use Rattle.seq.specs.Distance.{near, near-counted}
use Rattle.laws.specs.FarRefused.{receive-only-far, ack-only-far}
use Rattle.ends.specs.World.{Packet, World, swap, Brought, Timely, TimelyAck}
use Rattle.ends.specs.Inv.{way, Inv}
use Rattle.ends.proofs.Theorem.{Joined, turned, joined-after, joined-fresh}
use Rattle.ends.specs.NoneFar.{Clear, NoneFar}

-- ---- the numbers are near

-- what b sent in time is near the number that a expects next
near-expected : (W : World) → Inv (way (swap W)) → (p : Packet) → Brought p W.ba → Timely p.index W.b → near p.number W.a.state.rx.rx_seq.0 ≡ true
near-expected W i p brought timely =
    let label = i.links.put p brought in
    ap₂ near label.number_is i.rxi.exp-is
    ∙ near-counted W.start p.index i.e (omega (arith, timely, i.rxi.en)) (omega (arith, label.inside, i.txi.tight, i.txi.room))

-- an ack of what a sent, in time, is near the number that a sends next
near_next : (W : World) → Inv (way W) → (n : ℕ) → TimelyAck n W.a W.b → near n W.a.state.tx.tx_seq.0 ≡ true
near_next W i n late =
    let p = late.acked.message in
    let label = (i.links.taken p late.acked.member).0 in
    ap₂ near (sym late.acked.numbered ∙ label.number_is) i.txi.next-is
    ∙ near-counted W.start p.index (length W.a.given) late.timely (omega (arith, label.inside))

-- ---- so that neither is refused with 22

clear : (W : World) → Joined W → Clear W
clear W j = record {
  receive = λ slot p brought timely e. true≢false (sym (near-expected W j.two p brought timely) ∙ (receive-only-far W.a.state _ W.a.records slot p.msg.kind p.number _ e).far);
  ack = λ slot time n brought late e. true≢false (sym (near_next W j.one n late) ∙ (ack-only-far W.a.state slot time n e).far);
}

pub none-far : NoneFar
none-far = record { clear = λ U W f r. let j = joined-after r (joined-fresh f) in (clear W j, clear (swap W) (turned j)) }
