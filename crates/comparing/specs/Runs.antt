-- Document 02 [6]: "Frame and payload are compared as one run"; "the first differing byte's place and both byte values; where one is a
-- beginning of the other, the shorter length". Assumes nothing.
use Rattle.std.specs.Prelude.{◌≡◌, refl, Bool, true, false, cond, ◌&&◌, List, [], ◌∷◌, ◌++◌, ℕ, ◌+◌, ◌-◌, ◌≤◌, ◌<◌, eqb, leb, length, get_or, drop, None}
use Rattle.std.proofs.Common.{sym, ◌∙◌, append-nil, length-take-le}
use Rattle.std.proofs.Math.Path.{ap}
use Rattle.std.proofs.Math.ListN.{take, drop_of_length-le}
use Rattle.std.proofs.Math.Seq.{take-append-add}
use Rattle.std.proofs.lemmas.List.{take-append-le}
use borrow.Author.Tests.{eq-eqb, ne_eqb, le-leb, lt-leb}
use borrow.Table.Steps.{cases}
use Rattle.text.specs.HexRun.{spells, spelt}
use Rattle.recording.specs.Lines.{lines_from, lines_of, until_feed, byte-first, line-none, line_first}
use Rattle.comparing.specs.declared.messages.Found.{Found}
use Rattle.comparing.specs.declared.messages.Found.TheVariants as found
use Rattle.comparing.specs.declared.runs.Content.{Content}
use Rattle.comparing.specs.declared.runs.Content.TheVariants.{Equal, Differ, Begins}
use Rattle.comparing.specs.Messages.{line_found}

-- where two runs part, of which so many bytes were equal before
unfoldable pub content_from : ℕ → List ℕ → List ℕ → Content
content_from k [] [] = Equal
content_from k [] (y ∷ ys) = Begins k
content_from k (x ∷ xs) [] = Begins k
content_from k (x ∷ xs) (y ∷ ys) = cond (eqb x y) (content_from (k + 1) xs ys) (Differ k x y)

abbrev pub content_of : List ℕ → List ℕ → Content
content_of xs ys = content_from 0 xs ys

abbrev pub is_equal : Content → Bool
is_equal Equal = true
is_equal (Differ place x y) = false
is_equal (Begins n) = false

-- the bytes that a line spells, two digits each, at most 1,040; none where it is no such line
unfoldable pub line_bytes : List ℕ → List ℕ
unfolding spells spelt
line_bytes line = cond (leb (length line) 2080 && spells line) (spelt line) []

-- the line after a Data's frame belongs to the same message
abbrev pub payload_after : Found → List ℕ → List ℕ
payload_after found.Bad line = []
payload_after (found.Awaits m) line = line_bytes line
payload_after (found.Holds m) line = []
payload_after found.Passes line = []

abbrev pub run_in : List (List ℕ) → List ℕ
run_in [] = []
run_in (frame ∷ []) = line_bytes frame
run_in (frame ∷ payload ∷ rest) = line_bytes frame ++ payload_after (line_found None 0 0 frame) payload

-- the run of the message whose frame's line begins at a place
unfoldable pub run_at : List ℕ → ℕ → List ℕ
unfolding lines_from line_bytes line_found
run_at input at = run_in (lines_of (drop at input))

-- ---- laws

-- a run and itself
pub content-same : (k : ℕ) (x : List ℕ) → content_from k x x ≡ Equal
unfolding content_from
content-same k [] = refl
content-same k (u ∷ x) = simp (eq-eqb u u refl) (content-same (k + 1) x)

-- where two runs part, of which the bytes before a place are equal
module _ (a b : List ℕ) (i : ℕ) where
  pub content-step : i < length a → i < length b → get_or a i 0 ≡ get_or b i 0 → content_from i (drop i a) (drop i b) ≡ content_from (i + 1) (drop (i + 1) a) (drop (i + 1) b)
  unfolding content_from
  content-step h g e = simp (byte-first a i h, byte-first b i g, eq-eqb (get_or a i 0) (get_or b i 0) e)

  pub content-differ : i < length a → i < length b → (get_or a i 0 ≡ get_or b i 0 → ⊥) → content_from i (drop i a) (drop i b) ≡ Differ i (get_or a i 0) (get_or b i 0)
  unfolding content_from
  content-differ h g e = simp (byte-first a i h, byte-first b i g, ne_eqb (get_or a i 0) (get_or b i 0) e)

  pub content-shorter : i < length a → length b ≤ i → content_from i (drop i a) (drop i b) ≡ Begins i
  unfolding content_from
  content-shorter h g = simp (byte-first a i h, drop_of_length-le b g)

  pub content-longer : length a ≤ i → i < length b → content_from i (drop i a) (drop i b) ≡ Begins i
  unfolding content_from
  content-longer h g = simp (drop_of_length-le a h, byte-first b i g)

  pub content-equal : length a ≤ i → length b ≤ i → content_from i (drop i a) (drop i b) ≡ Equal
  unfolding content_from
  content-equal h g = simp (drop_of_length-le a h, drop_of_length-le b g)

-- the cases of a line's bytes
module _ (line : List ℕ) where
  pub bytes-long : 2080 < length line → line_bytes line ≡ []
  unfolding line_bytes
  bytes-long h = simp (lt-leb (length line) 2080 h)

  pub bytes-bad : spells line ≡ false → line_bytes line ≡ []
  unfolding line_bytes
  bytes-bad f = cases (leb (length line) 2080) (λ e. simp (e, f)) (λ e. simp e)

  pub bytes_good : length line ≤ 2080 → spells line ≡ true → line_bytes line ≡ spelt line
  unfolding line_bytes
  bytes_good h t = simp (le-leb (length line) 2080 h, t)

-- no bytes are put behind the first n of a run
pub put-none : (run bytes : List ℕ) (n : ℕ) → bytes ≡ [] → take n run ≡ take n run ++ bytes
put-none run bytes n e = sym (ap (λ l. take n run ++ l) e ∙ append-nil (take n run))

-- what stands behind the first n of a run, where a part from there on was put back
pub put-behind : (run part rest : List ℕ) (n k : ℕ) → n ≤ length run → k ≤ length part → take (n + k) (take n run ++ (part ++ rest)) ≡ take n run ++ take k part
put-behind run part rest n k h g =
    ap (λ m. take (m + k) (take n run ++ (part ++ rest))) (sym (length-take-le n run h))
    ∙ take-append-add (take n run) (part ++ rest) k
    ∙ ap (λ l. take n run ++ l) (take-append-le k part rest g)

-- the cases of a run: no line begins at the place, or one, or two
module _ (input : List ℕ) (at : ℕ) where
  pub run_none : length input ≤ at → run_at input at ≡ []
  unfolding run_at
  run_none h = ap run_in (line-none input at h)

  module _ (end : ℕ) (ends : end ≡ at + length (until_feed (drop at input))) (h : at < length input) where
    pub run-one : length input ≤ end + 1 → run_at input at ≡ line_bytes (take (end - at) (drop at input))
    unfolding run_at
    run-one g =
        ap run_in (line_first input at end ends h ∙ ap (λ l. take (end - at) (drop at input) ∷ l) (line-none input (end + 1) g))

    pub run-two : (last : ℕ) → last ≡ end + 1 + length (until_feed (drop (end + 1) input)) → end + 1 < length input
        → run_at input at ≡ line_bytes (take (end - at) (drop at input)) ++ payload_after (line_found None 0 0 (take (end - at) (drop at input))) (take (last - (end + 1)) (drop (end + 1) input))
    unfolding run_at
    run-two last lasts g =
        ap run_in (line_first input at end ends h ∙ ap (λ l. take (end - at) (drop at input) ∷ l) (line_first input (end + 1) last lasts g))
