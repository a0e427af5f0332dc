-- Word by word.
use mathlib.Core.Path.{sym}
use Rattle.words.specs.Read.{tx-read}
use Rattle.words.proofs.sending.tx_of.Goals as goal

pub returns : goal.returns
returns c = simp (c.seq_word.ensures, c.half.ensures, c.half-2.ensures, c.half-3.ensures, c.seq_word-2.ensures, c.is_set.ensures, c.is_set-2.ensures)
    (sym (tx-read c.args.words.now c.told-words))
