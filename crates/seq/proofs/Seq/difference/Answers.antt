-- The supplied difference wraps as `minus` does, and is read as `signed` reads it.
use Rattle.std.proofs.Common.{◌∙◌, w32}
use mir.ValLaws.{to_z-of_z}
use Rattle.seq.specs.Numbers.{minus}
use Rattle.seq.proofs.Signed.{read_signed}
use Rattle.seq.proofs.Seq.difference.Goals as goal

pub returns : goal.returns
unfolding minus
returns c = let z = c.cast_signed in
    to_z-of_z w32 z.result (record { sfits = z.type_inv }) ∙ z.ensures ∙ read_signed _
