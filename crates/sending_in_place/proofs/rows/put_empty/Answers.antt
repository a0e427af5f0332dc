-- An empty row has no acks either.
use mathlib.Core.Path.{ap, ◌∙◌}
use Rattle.link.specs.declared.row.LinkRow.{LinkRow}
use Rattle.link.specs.Row.{empty_row}
use Rattle.link.specs.Fields.{with_acks}
use Rattle.engine.specs.Fields.{with_row}
use Rattle.words.specs.Meaning.{state_of}
use Rattle.words.specs.Encoded.{no_acks}
use Rattle.sending_in_place.proofs.rows.put_empty.Goals as goal

pub returns : goal.returns
unfolding empty_row no_acks
returns c = c.put_new.ensures ∙ ap (λ (r : LinkRow). with_row (state_of c.args.words.now) c.args.slot (with_acks r no_acks r.ack_count)) c.empty.ensures
