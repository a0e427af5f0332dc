-- What the words say is what is added.
use Rattle.std.proofs.Common.{◌≡◌, get_or, refl, ap, ◌∙◌}
use Rattle.std.specs.Bool.{then_some}
use Rattle.words.specs.Meaning.{max_ping_of, given-where}
use Rattle.runs.specs.Bridges.{add-did}
use Rattle.runs.proofs.links.add_call.Goals as goal

pub returns : goal.returns
returns c = let w = c.args.call.now in
    let max : c.then_some-max.result ≡ max_ping_of (get_or w 3 0) (get_or w 4 0) = c.then_some-max.ensures ∙ ap (λ b. then_some b (get_or w 4 0)) c.is_set.ensures ∙ given-where _ (get_or w 4 0) in
    let e = rw (max, c.is_set-blocked.ensures, c.is_set-unconfirmed.ensures) at c.add.ensures in
    add-did _ _ _ _ _ _ _ _ _ _ refl c.tell_added.ensures e.value e.words_after
