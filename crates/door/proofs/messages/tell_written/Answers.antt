-- By the answer.
use Rattle.std.proofs.Common.{◌≡◌, ℕ, rules, refl, ◌∙◌, ap, set}
use Rattle.msg.specs.Writing.{written_told}
use Rattle.door.specs.One.{one_said}
use Rattle.door.proofs.messages.tell_written.Goals as goal

pub returns : goal.returns
returns c = let said = one_said written_told (λ (n : ℕ). n) (λ x. refl) (λ e. refl) c.args.answer c.tell_one.result c.args.values.now c.tell_one.new.values c.tell_one.ensures.refused
    (λ x q. let k = c.tell_one.ensures.said x q in
    let same : k.0 ≡ (λ (n : ℕ). n) x = let p = k.1 in search rules in
    (k.2, k.3 ∙ ap (set c.args.values.now 0) same)) in
    record { value = said.value; values_after = said.values_after }
