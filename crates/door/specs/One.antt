-- An answer with one value, as a host is told it. Assumes nothing.
use Rattle.std.specs.Prelude.{◌≡◌, refl, List, [], ◌∷◌, ℕ, set, Result, Ok, Err}
use Rattle.std.proofs.lemmas.List.Edits.{sets}
use Rattle.refusal.specs.declared.Refusal.{Refusal}
use Rattle.refusal.specs.Refusals.{number_of}
use Rattle.refusal.specs.Answers.{Told, success, refused}

pub record Said (t : Told) (n : ℕ) (old new : List ℕ) : Type 0 where
  pub value : n ≡ t.number
  pub values_after : new ≡ sets old 0 t.values

module _ {T : Type 0} (told : Result T Refusal → Told) (word : T → ℕ) (one : (x : T) → told (Ok x) ≡ success (word x ∷ [])) (none : (e : Refusal) → told (Err e) ≡ refused e) where
  pub one_said : (a : Result T Refusal) (n : ℕ) (old new : List ℕ)
      → ((e : Refusal) → a ≡ Err e → (n ≡ number_of e) × (new ≡ old))
      → ((x : T) → a ≡ Ok x → (n ≡ 0) × (new ≡ set old 0 (word x)))
      → Said (told a) n old new
  one_said (Ok x) n old new bad good = let k = good x refl in simp (one x) record { value = k.0; values_after = k.1 }
  one_said (Err e) n old new bad good = let k = bad e refl in simp (none e) record { value = k.0; values_after = k.1 }
