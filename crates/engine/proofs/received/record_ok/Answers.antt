-- A Data by its word, where nothing else is asked of it.
use Rattle.std.proofs.Common.{sym}
use Rattle.engine.specs.CellTally.{data-well}
use Rattle.engine.proofs.received.record_ok.Goals as goal

pub returns-then-k-expected : goal.returns-then-k-expected
returns-then-k-expected c = let a = c.args in
    sym (data-well a.word (c.is_data_record.ensures c.if-is_data_record.true) a.k a.expected c.if-k-expected.true)
