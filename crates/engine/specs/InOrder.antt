-- The packets that going round the table has still to come to. Assumes nothing.
use Rattle.std.specs.Prelude.{List}
use Rattle.engine.specs.declared.state.SentReliable.{SentReliable}
use Rattle.engine.specs.declared.table.InOrder.{InOrder}
use Rattle.engine.specs.Ring.{window}
use Rattle.engine.specs.Packets.{no_packet}
use Rattle.engine.specs.Sizes.{PACKETS}

unfoldable pub packets_left : InOrder → List SentReliable
packets_left it = window PACKETS no_packet it.cells.now it.at it.left
