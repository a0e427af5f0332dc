-- Less than 2^30 away, either way, or far.
use Rattle.std.proofs.Common.{ap, ◌∙◌, arith, nat_abs, w32, Some}
use mir.ValLaws.{to_z-of_z}
use Rattle.seq.proofs.Signed.{told-near, told-far}
use Rattle.seq.proofs.Seq.distance.Goals as goal

pub returns-then-unsigned_abs-lt-FAR : goal.returns-then-unsigned_abs-lt-FAR
returns-then-unsigned_abs-lt-FAR c = let d = c.difference-d in
    let back = to_z-of_z w32 d.result (record { sfits = d.type_inv }) in
    ap Some back ∙ told-near c.args.self.0 c.args.other.0 d.result d.ensures (omega (arith, ap nat_abs back))

pub returns-else-unsigned_abs-lt-FAR : goal.returns-else-unsigned_abs-lt-FAR
returns-else-unsigned_abs-lt-FAR c = let d = c.difference-d in
    let back = to_z-of_z w32 d.result (record { sfits = d.type_inv }) in
    told-far c.args.self.0 c.args.other.0 d.result d.ensures (omega (arith, ap nat_abs back))
