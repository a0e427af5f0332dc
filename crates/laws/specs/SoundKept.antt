-- Document 01: "Calls keep a sound state sound." One theorem over all calls, from the definitions that their promises cite; those
-- of the single calls are in the files *Kept. Assumes nothing.
use Rattle.std.specs.Prelude.{◌≡◌, List, [], ◌∷◌, ℕ, ◌^◌, ◌<◌, length, Ok}
use Rattle.engine.specs.Starting.{fresh_verdict, fresh_of}
use Rattle.laws.specs.Good.{Good}
use Rattle.laws.specs.Calls.{Call, Holding, next, Typed}
use Rattle.laws.specs.Passed.{next-keeps, passed, AckIsNumber, done-good-by}
use Rattle.laws.specs.LinksKept as links

pub kept-by : AckIsNumber → (c : Call) (h : Holding) → Typed c → Good h.state → Good (next c h).state
kept-by acked c h t g = next-keeps c h (λ k. Good k.state) g (λ e. done-good-by acked c h t g (passed c h t g e))

pub kept : (c : Call) (h : Holding) → Typed c → Good h.state → Good (next c h).state
kept = kept-by (λ slot time n t. t)

-- a fresh state is sound, and so is every state that calls make of it, in any order and with any arguments
pub fresh-good : (start buffer cells : ℕ) → start < 2 ^ 32 → (records : List ℕ) → fresh_verdict buffer cells (length records) ≡ Ok tt
    → Good (fresh_of start buffer cells (length records)).state
fresh-good = links.fresh-good

unfoldable pub after : List Call → Holding → Holding
after [] h = h
after (c ∷ cs) h = after cs (next c h)

abbrev pub AllTyped : List Call → Type 0
AllTyped [] = Unit
AllTyped (c ∷ cs) = Typed c × AllTyped cs

pub always-good : (cs : List Call) (h : Holding) → AllTyped cs → Good h.state → Good (after cs h).state
unfolding after
always-good [] h t g = g
always-good (c ∷ cs) h t g = always-good cs (next c h) t.1 (kept-by (λ slot time n p. p) c h t.0 g)
