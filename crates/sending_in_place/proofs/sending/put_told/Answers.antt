-- A Data tells of nothing; else the count told of goes.
use mathlib.Core.Path.{◌≡◌, ap}
use native.Mathlib.Omega.{arith}
use Rattle.engine.specs.Sending.{told_rx}
use Rattle.words.specs.Meaning.{state_of}
use Rattle.sending_in_place.specs.Untold.{data-untold}
use Rattle.sending_in_place.proofs.sending.put_told.Goals as goal

pub returns-in-Data : goal.returns-in-Data
returns-in-Data c = rw (c.in-Data.is, data-untold (state_of c.args.words.now).rx)

pub overflow_sub-rx : goal.overflow_sub-rx
overflow_sub-rx c = let e : c.rx_of-rx.result.rxed_reliable_consumed ≡ (state_of c.args.words.now).rx.rxed_reliable_consumed = ap (λ r. r.rxed_reliable_consumed) c.rx_of-rx.ensures in
    omega (arith, e, c.count.ensures, c.requires)

pub returns : goal.returns
unfolding told_rx
returns c = simp (c.put_rxed_reliable_consumed.ensures, c.rx_of-rx.ensures, c.count.ensures)
