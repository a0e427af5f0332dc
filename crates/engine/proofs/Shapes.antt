-- What the types of a state's fields say, for the proof of a function that is given a state: its `good` at the start. Assumes
-- nothing.
use Rattle.std.proofs.Common.{◌≡◌, ℕ, zero, suc, ◌<◌, List, [], ◌∷◌, length, get_or, arith}
use mir.Val.{Val}
use base.Fml.{Fml}
use denote.Shadow.{shadow}
use denote.Array.{each}
use denote.Laws.{Is}
use denote.Struct.Laws.{vals}
use Rattle.link.specs.Row.{no_row}
use Rattle.link.specs.Sizes.{ACKS}
use Rattle.engine.specs.declared.state.State.{State}
use Rattle.engine.specs.Sound.{Shaped}
use Rattle.link.specs.contracts.row.LinkRow as R
use Rattle.engine.specs.contracts.state.State as T
use Rattle.engine.proofs.state.State.TheLaws as T'

-- what an element's type says, of the element at each place of an array
each_at : {X : Type 0} (f : X → List Val → Fml) (P : X → Type 0) → ((x : X) (vs : List Val) → shadow (f x vs) → P x) → (none : X) (xs : List X) (us : List Val)
    → shadow (each X f xs us) → (j : ℕ) → j < length xs → P (get_or xs j none)
each_at f P h none [] us t j l = absurd (omega arith)
each_at f P h none (x ∷ xs) [] t j l = absurd t
each_at f P h none (x ∷ xs) (u ∷ us) t zero l = h x (u ∷ []) t.0
each_at f P h none (x ∷ xs) (u ∷ us) t (suc j) l = each_at f P h none xs us t.1 j (omega arith)

pub shaped : (s : State) → Is T.the_row s (vals T.the_type T'.the_laws s) → Shaped s
shaped s typed = record {
  links-full = typed.1.1.0.1.0.1;
  queues = λ j h.
      let eight = typed.1.1.0.1.0.1 in
      each_at (R.the_row).own_val (λ r. length r.tx_ack_queue ≡ ACKS) (λ r vs t. t.1.1.1.1.1.1.1.1.1.1.1.1.0.1.0.1) no_row s.links _ typed.1.1.0.1.1 j (omega (arith, eight));
  packets-full = typed.1.1.1.0.1.1.1.0.1.0.1;
  queue-full = typed.1.1.1.0.1.1.1.1.1.0.1.0.1;
  next-u32 = typed.1.1.1.0.1.1.0.1.1.0.1;
  expected-u32 = typed.1.1.1.1.0.1.1.0.1.1.0.1;
  oldest-u32 = typed.1.1.1.1.0.1.1.1.0.1.1.0.1;
  count-usize = typed.1.1.1.0.1.1.1.1.0.1;
  queue-usize = typed.1.1.1.0.1.1.1.1.1.1.0.1;
  unacked-u32 = typed.1.1.1.0.1.1.1.1.1.1.1.0.1;
  unconsumed-u32 = typed.1.1.1.0.1.1.1.1.1.1.1.1.0.1;
  unconsumable-u32 = typed.1.1.1.0.1.1.1.1.1.1.1.1.1.0.1;
  last-u32 = typed.1.1.1.0.1.1.1.1.1.1.1.1.1.1.0.1.1.0.1;
  size-u32 = typed.1.1.1.1.0.1.1.1.1.0.1;
  untold-u32 = typed.1.1.1.1.0.1.1.1.1.1.0.1;
  buffer-u32 = typed.1.1.1.1.0.1.1.1.1.1.1.0.1;
  cells-u32 = typed.1.1.1.1.0.1.1.1.1.1.1.1.0.1;
  end-u32 = typed.1.1.1.1.0.1.1.1.1.1.1.1.1.0.1.1.0.1;
  time-u64 = typed.1.1.1.1.1.0.1;
}
