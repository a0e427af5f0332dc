-- By whether a packet is Sent; one of a sound state was sent within the latest time.
use mathlib.Core.Path.{sym, ◌∙◌}
use Rattle.engine.specs.Deadlines.{first-within}
use Rattle.words.specs.Meaning.{state_of}
use Rattle.words.specs.Ready.{ready-sound}
use Rattle.sending_in_place.proofs.deadlines.named.Goals as goal

pub first_sent-first-requires : goal.first_sent-first-requires
first_sent-first-requires c =
    (ready-sound c.args.words.now c.requires.0).packet-count

pub deadline-at-requires : goal.deadline-at-requires
deadline-at-requires c =
    (first-within (state_of c.args.words.now) c.in-Some.flight (ready-sound c.args.words.now c.requires.0) (sym c.first_sent-first.ensures ∙ c.in-Some.is), c.requires.1)

pub returns-in-None : goal.returns-in-None
returns-in-None c = let first = sym c.first_sent-first.ensures ∙ c.in-None.is in
    simp first

pub returns-in-Some : goal.returns-in-Some
returns-in-Some c = let first = sym c.first_sent-first.ensures ∙ c.in-Some.is in
    simp (first, c.was_flushed.ensures, c.deadline-at.ensures)
