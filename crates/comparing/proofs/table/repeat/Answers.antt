-- Equal content leaves the rows, other content marks one.
use Rattle.std.proofs.Common.{◌≡◌, false, refl, sym, ◌∙◌, ap}
use Rattle.comparing.specs.declared.runs.Content.{Content}
use Rattle.comparing.specs.declared.runs.Content.TheVariants.{Equal, Differ, Begins}
use Rattle.comparing.specs.Runs.{is_equal}
use Rattle.comparing.specs.Rows.{marked-set}
use Rattle.comparing.specs.Table.{repeated-equal, repeated-other}
use Rattle.comparing.proofs.table.repeat.Goals as goal

other : (content : Content) → (content ≡ Equal → ⊥) → is_equal content ≡ false
other Equal h = absurd (h refl)
other (Differ place x y) h = refl
other (Begins n) h = refl

pub returns-in-Equal : goal.returns-in-Equal
returns-in-Equal c =
    let a = c.args in
    repeated-equal a.input.now _ a.at a.i a.rows.now (sym (ap is_equal c.compare_runs.ensures) ∙ ap is_equal c.in-Equal.is)

pub returns : goal.returns
returns c =
    let a = c.args in
    marked-set a.i a.rows.now c.requires
    ∙ repeated-other a.input.now _ a.at a.i a.rows.now (sym (ap is_equal c.compare_runs.ensures) ∙ other c.compare_runs.result c.in_default.not-Equal)
