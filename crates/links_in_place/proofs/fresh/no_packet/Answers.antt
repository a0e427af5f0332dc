-- As it is written there.
use mathlib.Core.Path.{◌∙◌}
use Rattle.links_in_place.proofs.fresh.no_packet.Goals as goal

pub returns : goal.returns
returns c = c.new-2.ensures ∙ simp c.new.ensures
