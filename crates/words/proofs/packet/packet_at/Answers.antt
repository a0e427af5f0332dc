-- The packet of the part.
use mathlib.Core.Path.{◌∙◌}
use Rattle.words.specs.Read.{packet-fits, packet-got}
use Rattle.words.proofs.packet.packet_at.Goals as goal

pub returns : goal.returns
returns c = let w = c.args.words.now in
    let got = packet-got w c.told-words c.args.at c.requires in
    record { value = c.packet_in.ensures ∙ got; len_bound = rw c.packet_in.ensures (packet-fits _) }
