-- The records of a sound state are as many as its cells.
use Rattle.std.proofs.Common.{sym, ◌∙◌}
use Rattle.refusal.specs.Verdicts.{gate-pass}
use Rattle.engine.specs.Receiving.{sound-lent}
use Rattle.engine.proofs.receiving.receive_verdict.Goals as goal

pub message_verdict-requires : goal.message_verdict-requires
message_verdict-requires c = sound-lent c.args.s c.args.records.now (sym c.is_sound_with.ensures ∙ (gate-pass c.is_sound_with.result _ _ (sym c.in_ok-refuse_unless-2.ensures)).0)
