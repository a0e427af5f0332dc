-- The cell of the number.
use Rattle.engine.specs.Table.{with_packet}
use Rattle.std.proofs.Common.{rules}
use Rattle.engine.proofs.table.with_packet.Goals as goal

pub returns : goal.returns
unfolding with_packet
returns c = search rules
