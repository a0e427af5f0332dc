-- Each run is read to the start of a buffer, and the two starts are compared.
use mathlib.Core.Path.{◌∙◌, ap}
use lib.ListN.{take}
use Rattle.comparing.specs.Runs.{content_of, run_at}
use Rattle.comparing.proofs.runs.compare_runs.Goals as goal

pub returns : goal.returns
returns c =
    let a = c.args in
    let first = c.read_run-n in
    let second = c.read_run-m in
    c.compare_bytes.ensures
    ∙ ap (λ l. content_of l (take second.result second.new.run)) first.ensures.run_after
    ∙ ap (content_of (run_at a.a.now a.i)) second.ensures.run_after
