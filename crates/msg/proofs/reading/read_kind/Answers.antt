-- The kind picks its row of `readers`.
use mathlib.Core.Path.{◌∙◌}
use Rattle.msg.specs.Reading.{read_kind}
use Rattle.msg.proofs.reading.read_kind.Goals as goal

pub returns-in-2 : goal.returns-in-2
unfolding read_kind
returns-in-2 c = c.handshake-in-2.ensures ∙ simp c.in-2.is
