-- A message has no more bytes than the room.
use mathlib.Core.Path.{sym}
use lib.ListN.{length}
use lib.Seq.{length-take-le}
use borrow.Author.Rules.{rules}
use Rattle.words.proofs.copying.copy.Goals as goal

pub slice_bounds-copy_by-end : goal.slice_bounds-copy_by-end
slice_bounds-copy_by-end c = sym (length-take-le (length c.args.src.now) _ (search rules))

pub copy_by-requires : goal.copy_by-requires
copy_by-requires c = (c.requires.0, sym (length-take-le (length c.args.src.now) _ (search rules)))
