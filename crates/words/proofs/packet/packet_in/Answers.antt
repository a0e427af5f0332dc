-- Its words, one by one.
use Rattle.words.specs.Meaning.{packet_of, held-or}
use Rattle.words.proofs.packet.packet_in.Goals as goal

pub returns : goal.returns
unfolding packet_of
returns c = simp (c.new.ensures, c.unwrap_or-msg.ensures, c.held_of.ensures, c.seq_word-seq.ensures, c.status_in.ensures, held-or)
