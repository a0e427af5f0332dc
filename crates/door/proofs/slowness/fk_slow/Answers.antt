-- The answer's places, one by one.
use Rattle.std.proofs.Common.{◌≡◌, ◌<◌, ℕ, length, get_or, rules, refl}
use Rattle.door.specs.Slowness.{eight-written}
use Rattle.door.proofs.slowness.fk_slow.Goals as goal

pub returns : goal.returns
returns c =
    let found = c.slow_said-found.result.slots in
    let one : (i : ℕ) → i < 8 → get_or c.map.result i 0 ≡ get_or found i 0 = λ i h. let k = c.map.ensures.items.at i 0 0 h in search rules in
    let places : length c.args.slots.now ≡ 8 = search rules in
    let written = eight-written c.args.slots.now c.map.result found places c.map.ensures.items.long one in
    simp (written, c.slow_said-found.ensures) record { value = refl; slots_after = refl; values_after = refl }
