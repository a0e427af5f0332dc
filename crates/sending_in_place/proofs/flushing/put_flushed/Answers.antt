-- The packets, then the time.
use Rattle.std.proofs.Common.{◌≡◌, rules}
use Rattle.engine.specs.Flushing.{flushed_packet, flushed_state}
use Rattle.sending_in_place.proofs.flushing.put_flushed.Goals as goal

pub change_packets-requires-clause-short : goal.change_packets-requires-clause-short
change_packets-requires-clause-short c = λ p q k h. let e : q ≡ flushed_packet c.args.slot c.args.time p = search rules in rw e h

pub returns : goal.returns
unfolding flushed_state
returns c = let changed = c.change_packets.ensures (flushed_packet c.args.slot c.args.time) (λ p q k. search rules) in rw (c.put_time.ensures, changed)
