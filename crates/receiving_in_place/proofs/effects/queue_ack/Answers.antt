-- The ack in its place, and then the count.
use Prim.Native.Nat.{◌<◌}
use native.Mathlib.Omega.{arith}
use Rattle.receiving_in_place.specs.Acked.{ack-counted-there}
use Rattle.receiving_in_place.proofs.effects.queue_ack.Goals as goal

pub put_ack-requires : goal.put_ack-requires
put_ack-requires c =
    (c.requires.0, rw c.row_at-n.ensures c.requires.1)

pub overflow_add-n : goal.overflow_add-n
overflow_add-n c = let room : c.row_at-n.result.ack_count < 64 = rw c.row_at-n.ensures c.requires.1 in
    omega arith

pub returns : goal.returns
returns c = let a = c.args in
    rw (c.put_ack_count.ensures, c.put_ack.ensures, c.row_at-n.ensures)
    (ack-counted-there a.words.now a.slot a.seq c.told-words c.requires.0 c.requires.1)
