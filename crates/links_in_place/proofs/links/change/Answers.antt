-- Its row is changed where the slot holds a link.
use Rattle.std.proofs.Common.{sym, ap, ◌∙◌}
use Rattle.std.specs.Prelude.{Err}
use Rattle.std.proofs.lemmas.Result.{err_from_is_err_and}
use Rattle.refusal.specs.Verdicts.{gate-pass}
use Rattle.words.specs.Meaning.{state_of}
use Rattle.links_in_place.specs.Gated.{gate-stop, slot_small, slot-here, slot-not}
use Rattle.links_in_place.proofs.links.change.Goals as goal

pub returns-in_err-refuse_unless-clause-value : goal.returns-in_err-refuse_unless-clause-value
returns-in_err-refuse_unless-clause-value g c =
    let stop = gate-stop _ _ _ (sym c.in_err-refuse_unless.ensures) in
    let p = err_from_is_err_and c.from_residual.result c.from_residual.ensures.1 in
    p.1 ∙ ap Err (p.2 ∙ stop.1) ∙ sym (slot-not (state_of c.args.words.now) c.requires.ready.judged c.args.slot (sym c.slot_ok.ensures ∙ stop.0))

pub row_at-requires : goal.row_at-requires
row_at-requires g c = let ok = (gate-pass _ _ _ (sym c.in_ok-refuse_unless.ensures)).0 in
    rw c.from-j.ensures (slot_small (state_of c.args.words.now) c.requires.ready.judged c.args.slot (sym c.slot_ok.ensures ∙ ok))

pub put_row-requires : goal.put_row-requires
put_row-requires g c = let ok = (gate-pass _ _ _ (sym c.in_ok-refuse_unless.ensures)).0 in
    rw c.from-j.ensures (slot_small (state_of c.args.words.now) c.requires.ready.judged c.args.slot (sym c.slot_ok.ensures ∙ ok))

pub returns-clause-value : goal.returns-clause-value
returns-clause-value g c = let ok = (gate-pass _ _ _ (sym c.in_ok-refuse_unless.ensures)).0 in
    sym (slot-here (state_of c.args.words.now) c.requires.ready.judged c.args.slot (sym c.slot_ok.ensures ∙ ok))
