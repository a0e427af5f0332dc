-- The gates, in the order of their numbers.
use Rattle.std.proofs.Common.{◌≡◌, ◌∙◌, arith}
use Rattle.std.proofs.lemmas.Grind.{common_steps}
use Rattle.engine.proofs.Shapes.{shaped}
use Rattle.engine.specs.Gates.{timed_verdict}
use Rattle.engine.specs.Resending.{resend_asked, resend-same}
use Rattle.engine.proofs.resending.resend_verdict.Goals as goal
use Rattle.engine.proofs.resending.resend_verdict.Goals.{then-in_table, else-in_table}

pub returns-in_err-timed_gates : goal.returns-in_err-timed_gates
unfolding timed_verdict
returns-in_err-timed_gates c = let a = c.args in
    let same = resend-same a.s a.slot a.time a.seq.0 (shaped a.s c.well_formed.0) c.well_formed.1.1.1.0.1.1.0.1 in
    let here : c.from_residual.result ≡ resend_asked a.s a.slot a.time a.seq.0 = grind (arith, common_steps) in
    here ∙ same

pub returns-in_err-refuse_unless : goal.returns-in_err-refuse_unless
unfolding timed_verdict
returns-in_err-refuse_unless c = let a = c.args in
    let same = resend-same a.s a.slot a.time a.seq.0 (shaped a.s c.well_formed.0) c.well_formed.1.1.1.0.1.1.0.1 in
    let here : c.from_residual-in_err-refuse_unless.result ≡ resend_asked a.s a.slot a.time a.seq.0 = elim c.if-in_table.branch [ then-in_table w ↦ grind (arith, common_steps) | else-in_table w ↦ grind (arith, common_steps) ] in
    here ∙ same

pub returns : goal.returns
unfolding timed_verdict
returns c = let a = c.args in
    let same = resend-same a.s a.slot a.time a.seq.0 (shaped a.s c.well_formed.0) c.well_formed.1.1.1.0.1.1.0.1 in
    let here : c.refuse_unless-2.result ≡ resend_asked a.s a.slot a.time a.seq.0 = elim c.if-in_table.branch [ then-in_table w ↦ grind (arith, common_steps) | else-in_table w ↦ grind (arith, common_steps) ] in
    here ∙ same
