-- What the end of the input answers, written to the buffer's start.
use mathlib.Core.Path.{◌∙◌, ap}
use Prim.Native.Nat.{◌≤◌}
use native.Mathlib.Nat.{zero-add}
use native.Mathlib.Omega.{arith}
use lib.ListN.{length}
use Rattle.replaying.specs.Writing.{LINE_TEXT}
use Rattle.replaying.specs.Feeding.{said_by, starting_with, closed, closed_as, close_of, close_out, said-short}
use Rattle.replaying.specs.FeedLine.{put-start}
use borrow.Author.Rules.{rules}
use Rattle.replaying.proofs.feeding.close.Goals as goal

pub returns : goal.returns
unfolding close_of close_out closed
returns c = let a = c.args in
    let e = c.end_input-last in
    let room : LINE_TEXT ≤ length a.out.now = search rules in
    let short = said-short e.result.answer in record { value = ap (closed_as e.result.replay) (c.show-wrote.ensures.value ∙ zero-add _) ∙ ap (λ x. closed_as x.said.replay (length (said_by x.said.answer))) e.ensures; store_after = ap (λ x. x.store) e.ensures; records_after = ap (λ x. x.records) e.ensures; out_after = c.show-wrote.ensures.out_after ∙ put-start (said_by e.result.answer) a.out.now (omega (arith, short, room)) ∙ ap (λ x. starting_with (said_by x.said.answer) a.out.now) e.ensures }
