-- Invariant: words and records are those of a sound state, and what is held and written is what the calls so far leave.
use borrow.Author.Rules.{rules}
use mathlib.Core.Path.{◌≡◌, refl, sym, ap, ◌∙◌, subst}
use Prim.Native.Nat.{ℕ, ◌+◌, ◌-◌, ◌*◌, ◌≤◌}
use native.Mathlib.Omega.{arith}
use lib.ListN.{take, drop, length-take, length-drop}
use Rattle.runs.specs.Asked.{asked_of}
use Rattle.runs.specs.Did.{Did}
use Rattle.runs.specs.Runs.{run_of, call_at, ran, ran_on, did-step}
use Rattle.runs.specs.Kept.{asked-typed, did-ready}
use Rattle.runs.proofs.running.do_calls.Goals as goal

pub loop-i-init : goal.loop-i-init
unfolding ran
loop-i-init c = record {
  left = omega arith;
  ready = c.requires.0;
  small = λ k. search rules;
  words_long = refl;
  sent-long = refl;
  received-long = refl;
  records-long = refl;
  answers-long = refl;
  so_far = refl;
}

pub overflow_mul-start : goal.overflow_mul-start
overflow_mul-start c = omega arith

pub overflow_add-end : goal.overflow_add-end
overflow_add-end c = omega arith

pub offset_bounds-calls-start : goal.offset_bounds-calls-start
offset_bounds-calls-start c = omega arith

pub slice_bounds-one_call-count : goal.slice_bounds-one_call-count
slice_bounds-one_call-count c = omega arith

pub slice_bounds-one_call-start : goal.slice_bounds-one_call-start
slice_bounds-one_call-start c = omega arith

pub slice_bounds-one_call-end : goal.slice_bounds-one_call-end
slice_bounds-one_call-end c = omega arith

pub one_call-answer-requires : goal.one_call-answer-requires
one_call-answer-requires c = (c.loop-i.invariant.ready, simp (length-take, length-drop) (omega arith))

pub overflow_mul-i : goal.overflow_mul-i
overflow_mul-i c = omega arith

pub put_answer-requires : goal.put_answer-requires
put_answer-requires c = omega (arith, c.loop-i.invariant.answers-long)

pub loop-i-preserved : goal.loop-i-preserved
loop-i-preserved c = let a = c.args in
    let l = c.loop-i in
    let o = c.one_call-answer in
    let inv = l.invariant in
    let w = o.new.words in
    let s = o.new.sent in
    let v = o.new.received in
    let r = o.new.records in
    let calls = a.calls.now in
    let bytes = a.bytes.now in
    let eight : l.i * 8 + 8 - l.i * 8 ≡ 8 = omega arith in
    let did : Did (asked_of (call_at calls l.i) bytes) l.words l.sent l.received l.records w s v r o.result =
    subst (λ (k : ℕ). Did (asked_of (take k (drop (l.i * 8) calls)) bytes) l.words l.sent l.received l.records w s v r o.result) eight o.ensures in
    let next : l.i + 1 ≤ a.count = omega arith in
    record {
      left = next;
      ready = did-ready l.words l.sent l.received l.records inv.ready (asked_of (call_at calls l.i) bytes) w s v r o.result (asked-typed (call_at calls l.i) bytes) inv.small o.array_long did;
      small = c.each_fits.ensures;
      words_long = o.array_long ∙ sym c.told-words;
      sent-long = o.auto.sent ∙ inv.sent-long;
      received-long = o.auto.received ∙ inv.received-long;
      records-long = o.auto.records ∙ inv.records-long;
      answers-long = c.put_answer.auto.answers ∙ inv.answers-long;
      so_far =
          ap (run_of w s v r) c.put_answer.ensures ∙ did-step calls bytes l.i l.words l.sent l.received l.records l.answers w s v r o.result did
          ∙ ran_on l.i calls bytes (run_of a.words.now a.sent.now a.received.now a.records.now a.answers.now) (run_of l.words l.sent l.received l.records l.answers) inv.so_far;
    }

pub shape_of-sent : goal.shape_of-sent
shape_of-sent c = c.loop-i.invariant.sent-long

pub shape_of-received : goal.shape_of-received
shape_of-received c = c.loop-i.invariant.received-long

pub shape_of-records : goal.shape_of-records
shape_of-records c = c.loop-i.invariant.records-long

pub shape_of-answers : goal.shape_of-answers
shape_of-answers c = c.loop-i.invariant.answers-long

pub returns : goal.returns
returns c = let l = c.loop-i in
    let a = c.args in
    let all : l.i ≡ a.count = omega (arith, l.invariant.left, c.loop-i-test.false) in
    l.invariant.so_far ∙ ap (λ k. ran k a.calls.now a.bytes.now (run_of a.words.now a.sent.now a.received.now a.records.now a.answers.now)) all
