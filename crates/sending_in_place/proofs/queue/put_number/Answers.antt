-- By whether the packet is queued.
use mathlib.Core.Path.{sym, ◌∙◌}
use Rattle.engine.specs.Queue.{put_in}
use Rattle.sending_in_place.proofs.queue.put_number.Goals as goal

pub returns-then-not-is_queued : goal.returns-then-not-is_queued
unfolding put_in
returns-then-not-is_queued c = let q = sym c.is_queued.ensures ∙ c.if-not-is_queued.true in
    record { value = simp q; words_after = simp q }

pub returns : goal.returns
unfolding put_in
returns c = let q = sym c.is_queued.ensures ∙ c.if-not-is_queued.false in
    record { value = simp q; words_after = simp (q, c.put_queued.ensures) }
