-- One word more of the row.
use mathlib.Core.Path.{◌≡◌, ap}
use native.Mathlib.Omega.{arith}
use Rattle.engine.specs.Sound.{row_at}
use Rattle.words.specs.Meaning.{state_of}
use Rattle.sending_in_place.proofs.rows.put_more.Goals as goal

pub overflow_add-row : goal.overflow_add-row
overflow_add-row c = let e : c.row_at-row.result.txed_unacked_data ≡ (row_at (state_of c.args.words.now) c.args.slot).txed_unacked_data = ap (λ r. r.txed_unacked_data) c.row_at-row.ensures in
    omega (arith, e, c.requires.1)

pub returns : goal.returns
returns c = rw (c.put_txed_unacked_data.ensures, c.row_at-row.ensures)
