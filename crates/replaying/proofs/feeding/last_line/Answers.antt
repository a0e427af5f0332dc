-- By whether a line is unfinished.
use mathlib.Core.Path.{sym, ◌∙◌}
use Rattle.replaying.specs.Feeding.{carrying, close-none, close-last}
use Rattle.replaying.proofs.feeding.last_line.Goals as goal

pub returns-then-session-eq0 : goal.returns-then-session-eq0
returns-then-session-eq0 c = let a = c.args in
    sym (close-none (carrying a.session a.store.now a.records.now a.line.now) c.if-session-eq0.true)

pub returns : goal.returns
returns c = let a = c.args in
    c.end_line.ensures ∙ sym (close-last (carrying a.session a.store.now a.records.now a.line.now) c.if-session-eq0.false)
