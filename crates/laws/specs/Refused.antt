-- Document 01: "Each returns its number alone; state and lent bytes stay as they came." One statement over all calls: where the
-- answer's number is not 0, state and stores are those that came in. Assumes nothing.
use Rattle.std.specs.Prelude.{◌≡◌, refl, ◌≢◌, List, ℕ, length, leb, Ok, Err}
use Rattle.refusal.specs.Verdicts.{Verdict}
use Rattle.std.proofs.Common.{ap}
use borrow.Table.Steps.{cases}
use Rattle.refusal.specs.Answers.{told_by}
use Rattle.msg.specs.declared.link_msg.LinkMsg.{LinkMsg}
use Rattle.msg.specs.Messages.{bytes_of}
use Rattle.msg.specs.Writing.{writable, written_told, write_of, buffer_of}
use Rattle.laws.specs.Calls.{Call, Holding, values, told, number, next, verdict}
use Rattle.laws.specs.Passed.{left-refused}

-- of writing, which is given no state
pub refused-writing : (msg : LinkMsg) (buffer : List ℕ) → (written_told (write_of msg buffer)).number ≢ 0 → buffer_of msg buffer ≡ buffer
unfolding write_of buffer_of
refused-writing msg buffer told =
    cases (writable msg)
    (λ may.
    cases (leb (length (bytes_of msg)) (length buffer))
    (λ room. absurd (told (simp (may, room))))
    (λ none. simp (may, none)))
    (λ not. simp not)

-- of every call on a state, by what it tells
pub refused-told : (c : Call) (h : Holding) → (told c h).number ≢ 0 → next c h ≡ h
refused-told c h some = go (verdict c h) refl
  where
    go : (v : Verdict) → verdict c h ≡ v → next c h ≡ h
    go (Ok tt) e = absurd (some (ap (λ (v : Verdict). (told_by v (values c h)).number) e))
    go (Err r) e = left-refused c h r e

-- of every call on a state
pub refused : (c : Call) (h : Holding) → number c h ≢ 0 → next c h ≡ h
refused c h some = refused-told c h some
