-- Judged once; then the calls, as many as have room.
use mathlib.Core.Path.{refl, sym, ap, ◌∙◌}
use lib.ListN.{length}
use Rattle.runs.specs.Runs.{run_of, ran, ready-true, room_fits, unlike-ready}
use Rattle.runs.proofs.running.run.Goals as goal

pub returns-in_default : goal.returns-in_default
returns-in_default c = simp (sym (unlike-ready c.args.words.now c.args.records.now c.in_default.ensures.cases)) record { value = refl; answers_after = refl; left = λ ne. refl }

pub returns-then-not-is_ready : goal.returns-then-not-is_ready
returns-then-not-is_ready c = let judged = sym (rw c.in-Some.ensures.cases.same at c.is_ready.ensures) ∙ c.if-not-is_ready.true in
    simp judged record { value = refl; answers_after = rw c.in-Some.ensures.cases.same refl; left = λ ne. c.in-Some.ensures.cases.same }

pub do_calls-requires : goal.do_calls-requires
do_calls-requires c = let room = c.room_for-count.ensures in
    let a = c.args in
    let fits = room_fits (length a.calls.now) (length a.answers.now) in
    (rw c.in-Some.ensures.cases.same (ready-true a.words.now a.records.now (sym (rw c.in-Some.ensures.cases.same at c.is_ready.ensures) ∙ c.if-not-is_ready.false)), rw room fits)

pub returns : goal.returns
returns c = let a = c.args in
    simp (sym (rw c.in-Some.ensures.cases.same at c.is_ready.ensures) ∙ c.if-not-is_ready.false)
    record { value = refl; answers_after = (rw c.in-Some.ensures.cases.same at c.do_calls.ensures) ∙ ap (λ k. ran k a.calls.now a.bytes.now (run_of a.words.now a.sent.now a.received.now a.records.now a.answers.now)) c.room_for-count.ensures; left = λ ne. absurd (ne refl) }
