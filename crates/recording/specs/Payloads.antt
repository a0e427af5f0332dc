-- Document 01, "The replay program": "its payload line (possibly blank)"; "a bad or absent payload, or one over 1,024 bytes, gives hex 14
-- (refusal 20)". Assumes nothing.
use Rattle.std.proofs.Math.Path.{◌≡◌, ap}
use Rattle.std.specs.Prelude.{Bool, false, cond, ◌&&◌, List, ℕ, ◌/◌, ◌≤◌, ◌<◌, leb, Some, None, Option}
use Rattle.std.proofs.Common.{sym, ◌∙◌}
use Rattle.std.proofs.Math.Bool.{true}
use native.Mathlib.Omega.{arith}
use Rattle.std.proofs.Math.ListN.{length, take, length-take}
use borrow.Author.Tests.{le-leb, lt-leb, leb-true}
use borrow.Table.Steps.{cases}
use Rattle.refusal.specs.Tests.{split}
use Rattle.text.specs.HexRun.{spells, spelt, read_hex_of, read_hex_in, spelt-length, hex-start}

-- 1,024 bytes are 2,048 digits
unfoldable pub is_payload : List ℕ → Bool
unfolding spells
is_payload line = leb (length line) 2048 && spells line

-- how many bytes a payload's line spells
unfoldable pub payload_of : List ℕ → Option ℕ
unfolding is_payload
payload_of line = cond (is_payload line) (Some (length line / 2)) None

-- the buffer that it was read into
unfoldable pub payload_in : List ℕ → List ℕ → List ℕ
unfolding read_hex_in
payload_in line into = cond (leb (length line) 2048) (read_hex_in line into) into

-- ---- laws

pub long-is-no-payload : (line : List ℕ) → 2048 < length line → is_payload line ≡ false
unfolding is_payload
long-is-no-payload line h = simp (lt-leb (length line) 2048 h)

module _ (line into : List ℕ) where
  pub payload-long : 2048 < length line → (None ≡ payload_of line) × (into ≡ payload_in line into)
  unfolding payload_of payload_in is_payload
  payload-long h = (simp (lt-leb (length line) 2048 h), simp (lt-leb (length line) 2048 h))

  pub payload-read : length into ≡ 1024 → length line ≤ 2048 → (read_hex_of line (length into) ≡ payload_of line) × (read_hex_in line into ≡ payload_in line into)
  unfolding payload_of payload_in is_payload read_hex_of
  payload-read n h =
      let room : length line / 2 ≤ length into = omega arith in
      (simp (le-leb (length line) 2048 h, le-leb (length line / 2) (length into) room), simp (le-leb (length line) 2048 h))

  -- what the answer says of a line
  pub payload-says : (n : ℕ) → payload_of line ≡ Some n → (n ≡ length line / 2) × (n ≤ 1024) × (is_payload line ≡ true)
  unfolding payload_of is_payload
  payload-says n e =
      cases (leb (length line) 2048)
      (λ l.
      cases (spells line)
      (λ t.
      let v : length line / 2 ≡ n = cc (simp (l, t) at e) in
      (sym v, omega (arith, leb-true (length line) 2048 l), simp (l, t)))
      (λ f. let z : ◌≡◌ {A = ℕ} 0 1 = cc (simp (l, f) at e) in absurd (omega arith)))
      (λ l. let z : ◌≡◌ {A = ℕ} 0 1 = cc (simp l at e) in absurd (omega arith))

  pub payload-bad-says : payload_of line ≡ None → is_payload line ≡ false
  unfolding payload_of
  payload-bad-says e =
      cases (is_payload line)
      (λ t. let z : ◌≡◌ {A = ℕ} 0 1 = cc (simp t at e) in absurd (omega arith))
      (λ f. f)

  -- the bytes of a payload stand at the buffer's start
  pub payload-start : (n : ℕ) → length into ≡ 1024 → payload_of line ≡ Some n → take n (payload_in line into) ≡ spelt line
  unfolding payload_in is_payload
  payload-start n room e =
      let said = payload-says n e in
      cases (leb (length line) 2048)
      (λ l.
      let t : spells line ≡ true = simp l at said.2 in
      simp l (ap (λ k. take k (read_hex_in line into)) said.0 ∙ hex-start line into t (omega (arith, leb-true (length line) 2048 l))))
      (λ l. let z : ◌≡◌ {A = ℕ} 0 1 = cc (simp l at said.2) in absurd (omega arith))

  -- and the buffer has them all
  pub payload-room : (n : ℕ) → length into ≡ 1024 → payload_of line ≡ Some n → n ≤ length (payload_in line into)
  unfolding is_payload
  payload-room n room e =
      let said = payload-says n e in
      let t = (split (leb (length line) 2048) (spells line) said.2).1 in
      omega (arith, length-take n (payload_in line into), ap length (payload-start n room e), spelt-length line t, said.0)
