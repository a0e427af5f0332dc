-- What is gathered, and what the packets that are left will add, is the whole list at each turn.
use Rattle.engine.specs.InOrder.{packets_left}
use Rattle.engine.specs.Packets.{packets, queued_of}
use Rattle.engine.specs.Queue.{Gathering}
use Rattle.engine.proofs.queue.gather.Given as goal

abbrev pub invariant-loop-p : goal.invariant-loop-p
invariant-loop-p l = Gathering l.fn.tx.resend_queue (queued_of (packets l.fn.tx)) l.g (packets_left l.p-iterator)
