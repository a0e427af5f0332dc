-- What is left of the table, weighed on top of the tally so far, gives the same tally at each turn; a packet that is not well spoils it.
use Rattle.std.specs.Prelude.{Some}
use Rattle.std.proofs.Common.{◌≡◌, ◌-◌, ◌<◌, ◌%◌, true, get_or, set, sym, refl, ap, ◌∙◌, arith}
use Rattle.seq.specs.declared.Seq.{Seq}
use Rattle.seq.specs.Numbers.{seq_of, plus}
use Rattle.engine.specs.declared.packets.Tally.{Tally}
use Rattle.engine.specs.Packets.{no_packet}
use Rattle.engine.specs.Ring.{next_cell}
use Rattle.engine.specs.Roster.{roster_of}
use Rattle.engine.specs.Sizes.{PACKETS}
use Rattle.engine.specs.Tally.{no_tally, tally_of, tally-none}
use Rattle.words.specs.Meaning.{state_of}
use Rattle.judging.specs.Weights.{weight_of, clipped, clipped-well, next-number, one-done, pass_from, wrong-turn, flying-turn, settled-turn, waiting-turn}
use Rattle.judging.proofs.pass.tallied.Goals as goal
use Rattle.judging.proofs.pass.tallied.Goals.{in-Flying, in-Settled, in-Waiting}

pub loop-init : goal.loop-init
unfolding tally_of
loop-init c = let z : c.args.count - 0 ≡ c.args.count = omega arith in
    ap (λ m. clipped (pass_from (state_of c.args.words.now) (c.args.first.0 % 64) m c.args.first no_tally)) z
    ∙ (λ i. clipped (pass_from (state_of c.args.words.now) ((c.requires.1 i).0 % 64) (c.requires.0 i) (c.requires.1 i) no_tally))

pub weight_at-requires : goal.weight_at-requires
weight_at-requires c =
    omega arith

pub returns-in_err-w : goal.returns-in_err-w
returns-in_err-w c = let s = state_of c.args.words.now in
    let l = c.loop in
    let left = c.args.count - l.counter in
    let some : 0 < left = omega (arith, c.loop-test.true) in
    let e = c.in_err-w.ensures ∙ ap (λ m. weight_of (get_or s.tx.txed_packets (l.n.0 % 64) no_packet) l.n (get_or s.tx.resend_queue (l.queued % 64) (seq_of 0)) (roster_of s.links) m) c.requires.2 in
    c.from_residual.ensures ∙ sym (wrong-turn s (l.n.0 % 64) left l.n (record { ok = true; on = l.on; unacked = l.unacked; unconsumable = l.unconsumable; queued = l.queued }) some (sym e)) ∙ l.invariant

pub loop-preserved : goal.loop-preserved
unfolding plus
loop-preserved c = let s = state_of c.args.words.now in
    let l = c.loop in
    let left = c.args.count - l.counter in
    let some : 0 < left = omega (arith, c.loop-test.true) in
    let t : Tally = record { ok = true; on = l.on; unacked = l.unacked; unconsumable = l.unconsumable; queued = l.queued } in
    let m = c.match-w in
    let t2 : Tally = record { ok = true; on = m.on; unacked = m.unacked; unconsumable = m.unconsumable; queued = m.queued } in
    let e = c.in_ok-w.ensures ∙ ap (λ m. weight_of (get_or s.tx.txed_packets (l.n.0 % 64) no_packet) l.n (get_or s.tx.resend_queue (l.queued % 64) (seq_of 0)) (roster_of s.links) m) c.requires.2 in
    let a : c.add-n.result.0 % 64 ≡ next_cell PACKETS (l.n.0 % 64) = ap (λ (n : Seq). n.0 % 64) c.add-n.ensures ∙ next-number l.n.0 in
    rw (← one-done c.args.count l.counter)
    (elim m.branch [
      | in-Flying w ↦
          ap clipped (flying-turn s (l.n.0 % 64) left l.n t some refl (c.add-n.result.0 % 64) c.add-n.result t2 a c.add-n.ensures w.in-Flying.slot w.in-Flying.len (sym e ∙ ap Some w.in-Flying.is) (λ i. record { ok = true; on = (w.on-is ∙ ap (set l.on (w.in-Flying.slot % 8)) w.wrapping_add_u32.ensures.value) i; unacked = (w.unacked-is ∙ w.wrapping_add_u32-unacked.ensures.value) i; unconsumable = w.unconsumable-is i; queued = w.queued-is i })) ∙ l.invariant
      | in-Settled w ↦
          ap clipped (settled-turn s (l.n.0 % 64) left l.n t some refl (c.add-n.result.0 % 64) c.add-n.result t2 a c.add-n.ensures w.in-Settled.len (sym e ∙ ap Some w.in-Settled.is) (λ i. record { ok = true; on = w.on-is i; unacked = w.unacked-is i; unconsumable = (w.unconsumable-is ∙ w.wrapping_add_u32-unconsumable.ensures.value) i; queued = w.queued-is i })) ∙ l.invariant
      | in-Waiting w ↦
          ap clipped (waiting-turn s (l.n.0 % 64) left l.n t some refl (c.add-n.result.0 % 64) c.add-n.result t2 a c.add-n.ensures w.in-Waiting.len (sym e ∙ ap Some w.in-Waiting.is) (λ i. record { ok = true; on = w.on-is i; unacked = (w.unacked-is ∙ w.wrapping_add_u32-unacked-in-Waiting.ensures.value) i; unconsumable = w.unconsumable-is i; queued = (w.queued-is ∙ w.wrapping_add_usize-queued.ensures.value) i })) ∙ l.invariant
    ])

pub returns : goal.returns
returns c = let s = state_of c.args.words.now in
    let l = c.loop in
    let left = c.args.count - l.counter in
    let t : Tally = record { ok = true; on = l.on; unacked = l.unacked; unconsumable = l.unconsumable; queued = l.queued } in
    sym (clipped-well t refl) ∙ ap clipped (sym (tally-none s.tx.resend_queue (roster_of s.links) s.time s.tx.txed_packets (l.n.0 % 64) left l.n.0 t (omega (arith, c.loop-test.false)))) ∙ l.invariant
