-- The next number's cell, and the sums.
use Rattle.engine.specs.Sending.{sent_tx}
use Rattle.engine.proofs.sending.sent_tx.Goals as goal
use Rattle.engine.proofs.sending.sent_tx.Goals.{then-tx, else-tx}

pub returns : goal.returns
unfolding sent_tx
returns c = elim c.if-tx.branch [ then-tx w ↦ simp (w.out-is, w.if-tx.true, c.cell_at-at.ensures, c.add.ensures, c.new-p.ensures, c.new.ensures) | else-tx w ↦ simp (w.out-is, w.if-tx.false, w.kind.ensures, c.cell_at-at.ensures, c.add.ensures, c.new-p.ensures, c.new.ensures) ]
