-- The run of the cell comes back as the packet's words.
use Rattle.words.specs.Encoded.{small_slot}
use Rattle.words.specs.Put.{packet-put}
use borrow.Author.Rules.{rules}
use Rattle.words.proofs.packet.put_packet.Goals as goal

pub returns : goal.returns
returns c = let a = c.args in
    packet-put a.words.now c.told-words c.write_packet.new.part a.at a.p c.requires.0 (search rules) c.requires.1 (small_slot a.p.status c.write_packet.ensures.status_bound) c.write_packet.ensures.part_after
