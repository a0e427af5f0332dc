-- What is known of an option, told in other words. Assumes nothing.
use Rattle.std.proofs.Common.{Option, Some, None, MatchOption}

pub match-map : {X P P₂ : Type 0} {Q Q₂ : X → Type 0} (r : Option X) → MatchOption r P Q → (P → P₂) → ((y : X) → Q y → Q₂ y) → MatchOption r P₂ Q₂
match-map None known none some = none known
match-map (Some y) known none some = some y known
