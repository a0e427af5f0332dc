-- The second word of its row.
use Rattle.std.proofs.Common.{sym}
use Rattle.judging.specs.Words.{id-read}
use Rattle.judging.proofs.roster.id_of.Goals as goal

pub returns : goal.returns
returns c = sym (id-read c.args.words.now c.told-words c.args.slot c.requires)
