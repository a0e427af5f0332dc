-- By the answer.
use Rattle.std.proofs.Common.{◌≡◌, rules, refl, ◌∙◌, ap, set}
use Rattle.seq.specs.declared.Seq.{Seq}
use Rattle.engine.specs.Sending.{send_told}
use Rattle.door.specs.One.{one_said}
use Rattle.door.proofs.answers.tell_sent.Goals as goal

pub returns : goal.returns
returns c = let said = one_said send_told (λ (s : Seq). s.0) (λ x. refl) (λ e. refl) c.args.answer c.tell_one.result c.args.values.now c.tell_one.new.values c.tell_one.ensures.refused
    (λ x q. let k = c.tell_one.ensures.said x q in
    let same : k.0 ≡ (λ (s : Seq). s.0) x = let p = k.1 in search rules in
    (k.2, k.3 ∙ ap (set c.args.values.now 0) same)) in
    record { value = said.value; values_after = said.values_after }
