-- What a buffer holds after something was put at a place: all of it with nothing else changed, or nothing. Assumes nothing.
use Rattle.std.specs.Prelude.{Bool, true, cond, List, [], ◌∷◌, ◌++◌, ◌≡◌, refl, ℕ, zero, suc, ◌+◌, ◌-◌, ◌/◌, ◌^◌, ◌<◌, ◌≤◌, leb, ltb, length, take, drop}
use Rattle.std.proofs.Common.{append-nil, append_assoc, sym, ◌∙◌, ap, zero-add, add-zero, pow-suc, arith, length-append, length-take, length-drop, take-append-drop, drop_of_length-le, take_at, drop_at, drop-drop, le-leb, lt-ltb, le-ltb}
use Rattle.std.proofs.Math.Nat.{one-le-pow}
use Rattle.std.proofs.Math.Seq.{take-length}
use Rattle.std.proofs.lemmas.Bool.{lt-leb}
use borrow.Table.Steps.{cases}
use Rattle.io.specs.Digits.{last_digits, IsDigitCount}

-- there is room for the run from the place on
unfoldable pub has_room : List ℕ → List ℕ → ℕ → Bool
has_room run out at = leb (at + length run) (length out)

unfoldable pub put_end : List ℕ → List ℕ → ℕ → ℕ
put_end run out at = cond (has_room run out at) (at + length run) at

unfoldable pub put_in : List ℕ → List ℕ → ℕ → List ℕ
put_in run out at = cond (has_room run out at) (take at out ++ (run ++ drop (at + length run) out)) out

-- runs put one behind the other
unfoldable pub puts_end : List (List ℕ) → List ℕ → ℕ → ℕ
unfolding put_end put_in
puts_end [] out at = at
puts_end (run ∷ rest) out at = puts_end rest (put_in run out at) (put_end run out at)

unfoldable pub puts_in : List (List ℕ) → List ℕ → ℕ → List ℕ
unfolding put_end put_in
puts_in [] out at = out
puts_in (run ∷ rest) out at = puts_in rest (put_in run out at) (put_end run out at)

-- what a function answers and leaves that puts runs one behind the other
pub record Puts (parts : List (List ℕ)) (out : List ℕ) (at r : ℕ) (new : List ℕ) : Type 0 where
  pub end : r ≡ puts_end parts out at
  pub holds : new ≡ puts_in parts out at

-- a text in parts
unfoldable pub joined : List (List ℕ) → List ℕ
joined [] = []
joined (part ∷ rest) = part ++ joined rest

-- how many decimal digits a number has; the first number bounds the count, and a number has never more digits than it counts
unfoldable pub places : ℕ → ℕ → ℕ
places zero n = 1
places (suc more) n = cond (ltb n 10) 1 (suc (places more (n / 10)))

-- a number in decimal: its digits, as few as hold it
unfoldable pub decimal_text : ℕ → List ℕ
unfolding places
decimal_text n = last_digits 10 (places n n) n

-- ---- laws

pub put_refused : (run out : List ℕ) (at : ℕ) → length out < at + length run → (put_end run out at ≡ at) × (put_in run out at ≡ out)
unfolding has_room put_end put_in
put_refused run out at h =
    let e = lt-leb (at + length run) (length out) h in
    (simp e, simp e)

pub put-done : (run out new : List ℕ) (at : ℕ)
    → at + length run ≤ length out
    → new ≡ take (length run) run ++ drop (length run) (take (at + length run - at) (drop at out))
    → (at + length run ≡ put_end run out at) × (take at out ++ (new ++ drop (at + length run - at) (drop at out)) ≡ put_in run out at)
unfolding has_room put_end put_in
put-done run out new at h e =
    let t = le-leb (at + length run) (length out) h in
    let k : at + length run - at ≡ length run = omega arith in
    let none : drop (length run) (take (length run) (drop at out)) ≡ [] =
    let s : length (take (length run) (drop at out)) ≤ length run = simp length-take (omega arith) in
    drop_of_length-le (take (length run) (drop at out)) s
    in
    (simp t, simp (t, e, k, take-length, none, append-nil, drop-drop))

-- the same where the part became the run
pub put-copied : (run out new : List ℕ) (at : ℕ)
    → at + length run ≤ length out
    → new ≡ run
    → (at + length run ≡ put_end run out at) × (take at out ++ (new ++ drop (at + length run - at) (drop at out)) ≡ put_in run out at)
unfolding has_room put_end put_in
put-copied run out new at h e =
    let t = le-leb (at + length run) (length out) h in
    let k : at + length run - at ≡ length run = omega arith in
    (simp t, simp (t, e, k, drop-drop))

pub puts-append : (first rest : List (List ℕ)) (out : List ℕ) (at : ℕ)
    → (puts_end (first ++ rest) out at ≡ puts_end rest (puts_in first out at) (puts_end first out at))
    × (puts_in (first ++ rest) out at ≡ puts_in rest (puts_in first out at) (puts_end first out at))
unfolding puts_end puts_in
puts-append [] rest out at = (refl, refl)
puts-append (run ∷ first) rest out at = puts-append first rest (put_in run out at) (put_end run out at)

-- where there is room for all of them, runs put one behind the other are put as one
pub puts-fit : (parts : List (List ℕ)) (out : List ℕ) (at : ℕ)
    → at + length (joined parts) ≤ length out
    → (puts_end parts out at ≡ at + length (joined parts))
    × (puts_in parts out at ≡ take at out ++ (joined parts ++ drop (at + length (joined parts)) out))
unfolding has_room put_end put_in puts_end puts_in joined
puts-fit [] out at h = simp (add-zero, take-append-drop) (refl, refl)
puts-fit (run ∷ rest) out at h =
    let past = at + length run in
    let more = length (joined rest) in
    let front = take at out ++ run in
    let new = front ++ drop past out in
    let both : at + length (run ++ joined rest) ≡ past + more = simp length-append (omega arith) in
    let room : leb past (length out) ≡ true = le-leb past (length out) (omega arith) in
    let size : length front ≡ past = simp (length-append, length-take) (omega arith) in
    let same : length new ≡ length out = simp (length-append, length-take, length-drop) (omega arith) in
    let r = puts-fit rest new past (omega arith) in
    let behind : drop (past + more) new ≡ drop (past + more) out = sym (drop-drop more past new) ∙ ap (drop more) (drop_at front (drop past out) past size) ∙ drop-drop more past out in
    simp (room, both, ← append_assoc) (r.0, r.1 ∙ simp (take_at front (drop past out) past size, behind, ← append_assoc))

-- one run is put
pub put_one : {run out new : List ℕ} {at r : ℕ} → (r ≡ put_end run out at) × (new ≡ put_in run out at) → Puts (run ∷ []) out at r new
unfolding puts_end puts_in
put_one e = record { end = e.0; holds = e.1 }

-- some runs are put, and others behind them
pub puts_then : {first rest : List (List ℕ)} {out : List ℕ} {at : ℕ} {mid new : List ℕ} {a r : ℕ} → Puts first out at a mid → Puts rest mid a r new → Puts (first ++ rest) out at r new
puts_then {first} {rest} {out} {at} p q =
    let both = puts-append first rest out at in
    record { end = cc both.0; holds = cc both.1 }

-- from the start of a buffer that has room for all, they leave their text
pub puts-all : {parts : List (List ℕ)} {out new : List ℕ} {r : ℕ} → Puts parts out 0 r new → length (joined parts) ≤ length out
    → (r ≡ length (joined parts)) × (new ≡ joined parts ++ drop (length (joined parts)) out)
puts-all {parts} {out} p h =
    let fit = simp zero-add at (puts-fit parts out 0 (simp zero-add h)) in
    (p.end ∙ fit.0, p.holds ∙ fit.1)

-- a number below 10^k has at most k digits
places-few : (more n k : ℕ) → n < 10 ^ suc k → places more n ≤ suc k
unfolding places
places-few zero n k h = omega arith
places-few (suc more) n zero h = simp (lt-ltb n 10 h) (omega arith)
places-few (suc more) n (suc k) h =
    cases (ltb n 10)
    (λ t. simp t (omega arith))
    (λ f.
    let step = pow-suc 10 (suc k) in
    simp f (omega (arith, places-few more (n / 10) k (omega arith))))

digits-many : (k n : ℕ) → length (last_digits 10 k n) ≡ k
digits-many zero n = refl
digits-many (suc k) n = simp length-append (omega (arith, digits-many k (n / 10)))

-- a number of 64 bits has at most twenty digits
pub decimal-short : (n : ℕ) → n < 2 ^ 64 → length (decimal_text n) ≤ 20
unfolding decimal_text
decimal-short n h = simp digits-many (places-few n n 19 (omega arith))

-- the fewest digits that hold a number are as many as it has
fewest-are : (more n k : ℕ) → n ≤ more → IsDigitCount 10 1 n k → k ≡ places more n
unfolding places
fewest-are zero n zero h f = absurd (omega (arith, f.0))
fewest-are zero n (suc zero) h f = refl
fewest-are zero n (suc (suc k)) h f =
    let one_less : suc (suc k) - 1 ≡ suc k = omega arith in
    let low : 10 ^ suc k ≤ n = rw one_less at (f.2 (omega arith)) in
    absurd (omega (arith, one-le-pow (suc k) 10 (omega arith)))
fewest-are (suc more) n zero h f = absurd (omega (arith, f.0))
fewest-are (suc more) n (suc zero) h f =
    let small : n < 10 = f.1 in
    simp (lt-ltb n 10 small)
fewest-are (suc more) n (suc (suc k)) h f =
    let one_less : suc (suc k) - 1 ≡ suc k = omega arith in
    let low : 10 ^ suc k ≤ n = rw one_less at (f.2 (omega arith)) in
    let high : n < 10 ^ suc (suc k) = f.1 in
    let step = pow-suc 10 k in
    let step₂ = pow-suc 10 (suc k) in
    let some = one-le-pow k 10 (omega arith) in
    let large : 10 ≤ n = omega arith in
    let less : n / 10 < 10 ^ suc k = omega arith in
    let same : suc k - 1 ≡ k = omega arith in
    let most : 10 ^ (suc k - 1) ≤ n / 10 = rw same (omega arith) in
    simp (le-ltb n 10 large) (ap suc (fewest-are more (n / 10) (suc k) (omega arith) (omega arith, less, λ _. most)))

pub fewest-text : (n k : ℕ) → IsDigitCount 10 1 n k → last_digits 10 k n ≡ decimal_text n
unfolding decimal_text
fewest-text n k f = ap (λ m. last_digits 10 m n) (fewest-are n n k (omega arith) f)
