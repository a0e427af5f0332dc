-- Data by its word; any other by what it says.
use Rattle.std.proofs.Common.{sym}
use Rattle.judging.specs.Weights.{data-fine}
use Rattle.judging.proofs.packet.message_ok.Goals as goal

pub returns-then-is_data_record : goal.returns-then-is_data_record
returns-then-is_data_record c = sym (data-fine c.args.word (c.is_data_record.ensures c.if-is_data_record.true))

pub returns-in-None : goal.returns-in-None
returns-in-None c = simp (sym c.held_of-held.ensures, c.in-None.is)

pub returns-in-Some : goal.returns-in-Some
returns-in-Some c = simp (sym c.held_of-held.ensures, c.in-Some.is) c.length_ok.ensures
