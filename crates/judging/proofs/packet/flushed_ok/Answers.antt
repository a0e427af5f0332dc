-- A time, or none.
use Rattle.std.proofs.Common.{eq-eqb, ne_eqb}
use Rattle.judging.proofs.packet.flushed_ok.Goals as goal

pub returns-then-some-eq0 : goal.returns-then-some-eq0
returns-then-some-eq0 c = simp (eq-eqb _ _ c.if-some-eq0.true)

pub returns : goal.returns
returns c = simp (ne_eqb _ _ c.if-some-eq0.false)
