-- The cell of the number.
use Rattle.engine.specs.Table.{packet_of}
use Rattle.std.proofs.Common.{rules}
use Rattle.engine.proofs.table.packet_of.Goals as goal

pub returns : goal.returns
unfolding packet_of
returns c = search rules
