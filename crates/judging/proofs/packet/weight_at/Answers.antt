-- The packet of the part.
use Rattle.std.proofs.Common.{◌%◌, get_or, ap, ◌∙◌}
use Rattle.seq.specs.Numbers.{seq_of}
use Rattle.engine.specs.declared.state.SentReliable.{SentReliable}
use Rattle.engine.specs.Roster.{roster_of}
use Rattle.words.specs.Meaning.{state_of}
use Rattle.words.specs.Read.{packet-got}
use Rattle.judging.specs.Weights.{weight_of}
use Rattle.judging.proofs.packet.weight_at.Goals as goal

pub returns : goal.returns
returns c = let a = c.args in
    let s = state_of a.words.now in
    c.weight_in.ensures
    ∙ ap (λ (p : SentReliable). weight_of p a.n (get_or s.tx.resend_queue (a.queued % 64) (seq_of 0)) (roster_of s.links) a.time) (packet-got a.words.now c.told-words a.at c.requires)
