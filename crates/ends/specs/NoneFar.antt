-- Document 02 [5]: "The premise of demand 3 already keeps honest traffic clear of this." In every run of two ends no Receive and no ack is
-- refused with 22. Its proof is `none-far` of proofs/NoneFar.antt. Assumes nothing.
use Rattle.std.specs.Prelude.{◌≢◌, ℕ}
use Rattle.laws.specs.Calls as calls
use Rattle.ends.specs.World.{Packet, World, swap, holds, Brought, BroughtAck, Timely, TimelyAck, Run, Fresh}

-- whatever the links bring in time to a, it isn't refused with 22: these are the two premises that the world's Receive and Acked have
pub record Clear (W : World) : Type 0 where
  pub receive : (slot : ℕ) (p : Packet) → Brought p W.ba → Timely p.index W.b
      → calls.number (calls.Receive slot p.msg.kind p.number p.msg.bytes) (holds W.a) ≢ 22
  pub ack : (slot time n : ℕ) → BroughtAck n W.ba → TimelyAck n W.a W.b → calls.number (calls.Ack slot time n) (holds W.a) ≢ 22

-- at both ends, at every point of every run
pub record NoneFar : Type 0 where
  pub clear : (U W : World) → Fresh U → Run U W → Clear W × Clear (swap W)
