-- Word by word.
use mathlib.Core.Path.{sym}
use Rattle.words.specs.Read.{rx-read}
use Rattle.words.proofs.receiving.rx_of.Goals as goal

pub returns : goal.returns
returns c = simp (c.seq_word.ensures, c.seq_word-2.ensures, c.half.ensures, c.half-2.ensures, c.half-3.ensures, c.half-4.ensures, c.seq_word-3.ensures)
    (sym (rx-read c.args.words.now c.told-words))
