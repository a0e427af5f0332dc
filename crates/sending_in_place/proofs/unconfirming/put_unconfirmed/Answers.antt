-- The packets, the queue, then the row.
use Rattle.std.proofs.Common.{◌≡◌, rules}
use Rattle.link.specs.Row.{unconfirmed_row}
use Rattle.engine.specs.Rows.{row-of}
use Rattle.engine.specs.Table.{with_table}
use Rattle.engine.specs.Unconfirming.{unconfirmed_packet, unconfirmed_state}
use Rattle.words.specs.Meaning.{state_of}
use Rattle.sending_in_place.proofs.unconfirming.put_unconfirmed.Goals as goal

pub change_packets-requires-clause-short : goal.change_packets-requires-clause-short
change_packets-requires-clause-short c = λ p q k h. let e : q ≡ unconfirmed_packet c.args.slot p = search rules in rw e h

pub requeue-requires : goal.requeue-requires
unfolding with_table
requeue-requires c =
    let changed = c.change_packets.ensures (unconfirmed_packet c.args.slot) (λ p q k. search rules) in
    rw changed c.requires.1

pub returns : goal.returns
unfolding unconfirmed_state unconfirmed_row
returns c = let changed = c.change_packets.ensures (unconfirmed_packet c.args.slot) (λ p q k. search rules) in
    rw (c.put_row.ensures, c.requeue.ensures, changed) (rw (c.unconfirm-row.ensures, c.row_at.ensures, row-of (state_of c.args.words.now) c.args.slot c.requires.0))
