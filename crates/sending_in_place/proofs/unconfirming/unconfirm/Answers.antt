-- By the verdict; a sound state has a count within its size.
use Rattle.std.specs.Prelude.{Err}
use Rattle.std.proofs.lemmas.Result.{err_from_is_err_and}
use mathlib.Core.Path.{ap, refl, sym, ◌∙◌}
use Rattle.engine.specs.Gates.{slot-passed}
use Rattle.engine.specs.Unconfirming.{unconfirm_of}
use Rattle.words.specs.Meaning.{state_of}
use Rattle.words.specs.Ready.{ready-sound}
use Rattle.sending_in_place.proofs.unconfirming.unconfirm.Goals as goal

pub put_unconfirmed-requires : goal.put_unconfirmed-requires
put_unconfirmed-requires c =
    ((slot-passed (state_of c.args.words.now) c.args.slot (sym c.in_ok-slot_verdict.ensures)).small, (ready-sound c.args.words.now c.requires).packet-count)

pub returns-in_err-slot_verdict : goal.returns-in_err-slot_verdict
unfolding unconfirm_of
returns-in_err-slot_verdict c = let p = err_from_is_err_and c.from_residual.result c.from_residual.ensures.1 in
    simp (sym c.in_err-slot_verdict.ensures, p.1 ∙ ap Err p.2) record { value = refl; words_after = refl; left = λ ne. refl }

pub returns : goal.returns
unfolding unconfirm_of
returns c = let e = (sym c.in_ok-slot_verdict.ensures) in
    record { value = simp e; words_after = simp (e, c.put_unconfirmed.ensures); left = λ ne. absurd (ne refl) }
