-- Word by word.
use Rattle.words.specs.Meaning.{row_of, given-where}
use Rattle.words.specs.Encoded.{no_acks}
use Rattle.words.proofs.row.row_in.Goals as goal

pub returns : goal.returns
unfolding row_of no_acks
returns c = simp (c.then_some.ensures, c.then_some-2.ensures, c.then_some-3.ensures, given-where, c.is_set.ensures, c.is_set-2.ensures, c.is_set-3.ensures, c.is_set-4.ensures, c.is_set-5.ensures, c.is_set-6.ensures, c.is_set-7.ensures, c.seq_word-mark.ensures, c.half.ensures)
