-- By the verdict; a sound state has a count within its size.
use Rattle.std.specs.Prelude.{Err}
use Rattle.std.proofs.lemmas.Result.{err_from_is_err_and}
use mathlib.Core.Path.{ap, refl, sym, ◌∙◌}
use Rattle.engine.specs.Flushing.{flush_of}
use Rattle.words.specs.Ready.{ready-sound}
use Rattle.sending_in_place.proofs.flushing.flush.Goals as goal

pub put_flushed-requires : goal.put_flushed-requires
put_flushed-requires c =
    (ready-sound c.args.words.now c.requires).packet-count

pub returns-in_err-timed_verdict : goal.returns-in_err-timed_verdict
unfolding flush_of
returns-in_err-timed_verdict c = let p = err_from_is_err_and c.from_residual.result c.from_residual.ensures.1 in
    simp (sym c.in_err-timed_verdict.ensures, p.1 ∙ ap Err p.2) record { value = refl; words_after = refl; left = λ ne. refl }

pub returns : goal.returns
unfolding flush_of
returns c = let e = (sym c.in_ok-timed_verdict.ensures) in
    record { value = simp e; words_after = simp (e, c.put_flushed.ensures); left = λ ne. absurd (ne refl) }
