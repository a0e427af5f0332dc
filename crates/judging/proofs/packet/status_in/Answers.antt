-- By the tag.
use Rattle.std.specs.Prelude.{Some}
use Rattle.std.proofs.Common.{◌≡◌, ◌%◌, ◌<◌, eqb, get_or, sym, ap, ◌∙◌, arith}
use Rattle.seq.specs.declared.Seq.{Seq}
use Rattle.seq.specs.Numbers.{seq_of}
use Rattle.engine.specs.Roster.{roster_of}
use Rattle.words.specs.Meaning.{state_of}
use Rattle.judging.specs.declared.packet.Weight.TheVariants.{Flying, Settled, Waiting}
use Rattle.judging.specs.Weights.{tag-settled, tag-waiting, tag-unqueued, tag-none, tag-flying, tag-grounded}
use Rattle.judging.proofs.packet.status_in.Goals as goal

pub returns-then-flight_ok : goal.returns-then-flight_ok
returns-then-flight_ok c = let a = c.args in
    let s = state_of a.words.now in
    let q = get_or s.tx.resend_queue (a.queued % 64) (seq_of 0) in
    let r = roster_of s.links in
    let x = a.part.now in
    let l : 0 < get_or x 2 0 = omega arith in
    let m : get_or x 2 0 < 3 = omega arith in
    ap (λ n. Some (Flying (get_or x 3 0 % 256) n)) c.length_in-len.ensures ∙ sym (tag-flying a.n q r a.time x l m (sym c.flight_ok.ensures ∙ c.if-flight_ok.true))

pub returns-then-wrapping_sub_u64-lt2 : goal.returns-then-wrapping_sub_u64-lt2
returns-then-wrapping_sub_u64-lt2 c = let a = c.args in
    let s = state_of a.words.now in
    let q = get_or s.tx.resend_queue (a.queued % 64) (seq_of 0) in
    let r = roster_of s.links in
    let x = a.part.now in
    let l : 0 < get_or x 2 0 = omega arith in
    let m : get_or x 2 0 < 3 = omega arith in
    sym (tag-grounded a.n q r a.time x l m (sym c.flight_ok.ensures ∙ c.if-flight_ok.false))

pub returns-then-tag-eq3 : goal.returns-then-tag-eq3
returns-then-tag-eq3 c = let a = c.args in
    let s = state_of a.words.now in
    let q = get_or s.tx.resend_queue (a.queued % 64) (seq_of 0) in
    let r = roster_of s.links in
    let x = a.part.now in
    ap (λ n. Some (Settled n)) c.length_in-len.ensures ∙ sym (tag-settled a.n q r a.time x c.if-tag-eq3.true)

pub returns-then-tag-ne4 : goal.returns-then-tag-ne4
returns-then-tag-ne4 c = let a = c.args in
    let s = state_of a.words.now in
    let q = get_or s.tx.resend_queue (a.queued % 64) (seq_of 0) in
    let r = roster_of s.links in
    let x = a.part.now in
    let e : get_or x 2 0 ≡ 4 → ⊥ = c.if-tag-ne4.true in
    sym (tag-none a.n q r a.time x (λ h. omega arith) (λ h. omega arith) (λ h. omega arith) e)

pub returns-then-eq : goal.returns-then-eq
returns-then-eq c = let a = c.args in
    let s = state_of a.words.now in
    let q = get_or s.tx.resend_queue (a.queued % 64) (seq_of 0) in
    let r = roster_of s.links in
    let x = a.part.now in
    let t : get_or x 2 0 ≡ 4 = omega arith in
    ap (λ n. Some (Waiting n)) c.length_in-len.ensures ∙ sym (tag-waiting a.n q r a.time x t (ap (λ (m : Seq). eqb m.0 a.n.0) (sym c.queued_at.ensures) ∙ sym c.eq.ensures ∙ c.if-eq.true))

pub returns : goal.returns
returns c = let a = c.args in
    let s = state_of a.words.now in
    let q = get_or s.tx.resend_queue (a.queued % 64) (seq_of 0) in
    let r = roster_of s.links in
    let x = a.part.now in
    let t : get_or x 2 0 ≡ 4 = omega arith in
    sym (tag-unqueued a.n q r a.time x t (ap (λ (m : Seq). eqb m.0 a.n.0) (sym c.queued_at.ensures) ∙ sym c.eq.ensures ∙ c.if-eq.false))
