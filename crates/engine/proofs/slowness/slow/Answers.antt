-- By the length; an array of the eight rows is the run itself.
use Rattle.std.proofs.Common.{◌≡◌, length, ap, ◌∙◌, eq-eqb, ne_eqb, Ok, Err}
use Rattle.refusal.specs.declared.Refusal.TheVariants.{Slot}
use Rattle.engine.specs.Slowness.{slow_of, slow_links_of, slow_told, slow-told}
use Rattle.engine.proofs.slowness.slow.Goals as goal

pub returns-in-Ok : goal.returns-in-Ok
unfolding slow_links_of
returns-in-Ok c =
    let rows = c.args.rows.now in
    let e : c.slow_rows.result ≡ slow_of rows = c.slow_rows.ensures ∙ ap slow_of c.in-Ok.ensures.1.same in
    let w : Ok c.slow_rows.result ≡ slow_links_of rows = ap Ok e ∙ simp (eq-eqb (length rows) 8 c.in-Ok.ensures.1.long) in
    (w, ap slow_told w ∙ slow-told rows)

pub returns-in-Err : goal.returns-in-Err
unfolding slow_links_of
returns-in-Err c =
    let rows = c.args.rows.now in
    let w : Err Slot ≡ slow_links_of rows = simp (ne_eqb (length rows) 8 c.in-Err.ensures.1) in
    (w, ap slow_told w ∙ slow-told rows)
