-- The first word of its row.
use Rattle.std.proofs.Common.{sym}
use Rattle.words.specs.Read.{live-read}
use Rattle.judging.proofs.roster.is_live.Goals as goal

pub returns : goal.returns
returns c = sym (live-read c.args.words.now c.told-words c.args.slot c.requires)
