-- Document 01, "The replay program", over a whole input, line by line; and that the same input fed byte by byte, and closed, is the
-- whole. Assumes nothing.
use Rattle.std.specs.Prelude.{◌≡◌, List, [], ◌∷◌, ◌++◌, ℕ, ◌+◌, ◌≤◌, ◌<◌, eqb, leb, ltb, length, take, set, Some, None, Option}
use Rattle.std.proofs.Math.Path.{refl, ap}
use Rattle.std.proofs.Common.{sym, ◌∙◌, append-nil, add-one, arith, length-append, length-set, take-suc-set, eqb-true, leb-true, leb-false, ltb-true, ltb-false}
use Rattle.std.proofs.lemmas.Bool.{eqb-false}
use borrow.Table.Steps.{cases}
use Rattle.seq.specs.declared.Seq.{Seq}
use Rattle.engine.specs.Receiving.{receive_store}
use Rattle.replaying.specs.declared.session.Replay.{Replay}
use Rattle.replaying.specs.Session.{beginning, begun, begun_records}
use Rattle.recording.specs.Frames.{MAX_LINE}
use Rattle.recording.specs.Lines.{lines_from, lines_of}
use Rattle.replaying.specs.Taking.{Recorded, recorded, ended}
use Rattle.replaying.specs.Line.{Left, ended_with, received, answer_of, long-answer, every-answer}
use Rattle.replaying.specs.Feeding.{Told, begun_with, said_by, told_of, told_after, carrying_with, line_with, count_with, line_left, line_ended, byte_fed, fed_by, absent_of, silent, last_of, closed, line-long, line-short, close-none, close-last}

-- a line, and then the others
unfoldable pub tell : Told → List ℕ → Told
unfolding answer_of
tell t line = told_after t.text (answer_of t.replay t.store t.records line)

unfoldable pub tell_all : Told → List (List ℕ) → Told
unfolding tell
tell_all t [] = t
tell_all t (line ∷ rest) = tell_all (tell t line) rest

-- "a bad or absent payload .. gives hex 14"
unfoldable pub finished : Told → Told
unfolding absent_of
finished t = told_after t.text (absent_of (silent t))

-- the whole: what an input leads to from the beginning, over a received store and a record space
unfoldable pub whole_of : (store records input : List ℕ) → Told
unfolding finished tell_all lines_from beginning
whole_of store records input = finished (tell_all (told_of (beginning (length records)) store (begun_records records) []) (lines_of input))

-- and the text that is written, byte for byte
unfoldable pub output_of : (store records input : List ℕ) → List ℕ
unfolding whole_of
output_of store records input = (whole_of store records input).text

-- ---- that input fed byte by byte, and closed, is the whole

-- an answer after which a payload is awaited says nothing yet
Quiet : Left → Type 0
Quiet l = (seq : Seq) → l.said.replay.waiting ≡ Some seq → l.said.answer ≡ None

quiet-ended : (number : ℕ) (h : Recorded) (store : List ℕ) → Quiet (ended_with number h store)
unfolding Quiet ended
quiet-ended number h store seq e = let z : ◌≡◌ {A = ℕ} 0 1 = cc in absurd (omega arith)

quiet : (r : Replay) (store records line : List ℕ) → Quiet (answer_of r store records line)
unfolding answer_of received Quiet
quiet r store records line =
    let h = recorded r.state records in
    every-answer Quiet h store line (λ number. quiet-ended number h store)
    (λ msg seq bytes few. quiet-ended _ _ (receive_store r.state store records 0 msg seq.0 bytes)) (λ seq n e. refl) r.waiting

-- an absent payload, told with the last line or after it
absent-told : (w : Option Seq) (l : Left) (text : List ℕ) → l.said.replay.waiting ≡ w → Quiet l → told_after text (absent_of l) ≡ finished (told_after text l)
unfolding absent_of finished Quiet
absent-told None l text e q = simp e (ap (told_of l.said.replay l.store l.records) (sym (append-nil (text ++ said_by l.said.answer))))
absent-told (Some seq) l text e q =
    let n = q seq e in
    let then = ended_with 20 (recorded l.said.replay.state l.records) l.store in
    simp (e, n) (ap (λ x. told_after x then) (sym (append-nil text)))

-- what the buffer and its count carry of a line
record Carries (line : List ℕ) (count : ℕ) (l : List ℕ) : Type 0 where
  sized : length line ≡ MAX_LINE
  short : length l ≤ MAX_LINE → count ≡ length l
  same : length l ≤ MAX_LINE → take (length l) line ≡ l
  long : MAX_LINE < length l → MAX_LINE < count

carries-none : (line : List ℕ) → length line ≡ MAX_LINE → Carries line 0 []
carries-none line h = record { sized = h; short = λ z. refl; same = λ z. refl; long = λ z. absurd (omega arith) }

fits : (line : List ℕ) (count : ℕ) (l : List ℕ) → Carries line count l → count < MAX_LINE → (count ≡ length l) × (length l < MAX_LINE)
fits line count l k h =
    cases (leb (length l) MAX_LINE)
    (λ t. let e = k.short (leb-true (length l) MAX_LINE t) in (e, omega arith))
    (λ f. let e = k.long (leb-false (length l) MAX_LINE f) in absurd (omega arith))

full : (line : List ℕ) (count : ℕ) (l : List ℕ) → Carries line count l → MAX_LINE ≤ count → MAX_LINE ≤ length l
full line count l k h =
    cases (leb (length l) MAX_LINE)
    (λ t. let e = k.short (leb-true (length l) MAX_LINE t) in omega arith)
    (λ f. let e = leb-false (length l) MAX_LINE f in omega arith)

carries-more : (line : List ℕ) (count : ℕ) (l : List ℕ) (b : ℕ) → Carries line count l → Carries (line_with line count b) (count_with count) (l ++ (b ∷ []))
unfolding line_with count_with
carries-more line count l b k =
    let len : length (l ++ (b ∷ [])) ≡ length l + 1 = length-append l (b ∷ []) in
    cases (ltb count MAX_LINE)
    (λ t.
    let f = fits line count l k (ltb-true count MAX_LINE t) in
    let e : take (length l + 1) (set line count b) ≡ l ++ (b ∷ []) = rw (f.0, add-one) (take-suc-set line (length l) b (omega (arith, k.sized)) ∙ ap (λ x. x ++ (b ∷ [])) (k.same (omega arith))) in
    record {
      sized = simp (t, length-set) k.sized;
      short = λ z. simp t (omega (arith, len, f.0));
      same = λ z. simp t (rw len e);
      long = λ z. absurd (omega (arith, len, f.1));
    })
    (λ n.
    let f = full line count l k (ltb-false count MAX_LINE n) in
    record {
      sized = simp n k.sized;
      short = λ z. absurd (omega (arith, len, f));
      same = λ z. absurd (omega (arith, len, f));
      long = λ z. simp n (omega arith);
    })

-- the end of the carried line is the line
module _ (t : Told) (line : List ℕ) (count : ℕ) (l : List ℕ) (k : Carries line count l) where
  carried-left : line_left t.replay t.store t.records line count ≡ answer_of t.replay t.store t.records l
  carried-left =
      cases (leb (length l) MAX_LINE)
      (λ y.
      let h = leb-true (length l) MAX_LINE y in
      let e = k.short h in
      line-short t.replay t.store t.records line count (omega arith)
      ∙ ap (λ n. answer_of t.replay t.store t.records (take n line)) e
      ∙ ap (answer_of t.replay t.store t.records) (k.same h))
      (λ n.
      let h = leb-false (length l) MAX_LINE n in
      line-long t.replay t.store t.records line count (k.long h)
      ∙ sym (long-answer t.replay t.store t.records l h))

  carried-line : line_ended (carrying_with t line count) ≡ carrying_with (tell t l) line 0
  unfolding line_ended tell
  carried-line = ap (λ x. carrying_with (told_after t.text x) line 0) carried-left

  unempty : (length l ≡ 0 → ⊥) → count ≡ 0 → ⊥
  unempty h z =
      cases (leb (length l) MAX_LINE)
      (λ y. let e = k.short (leb-true (length l) MAX_LINE y) in h (omega arith))
      (λ n. let e = k.long (leb-false (length l) MAX_LINE n) in omega arith)

  closed_none : length l ≡ 0 → closed (carrying_with t line count) ≡ finished t
  unfolding closed last_of finished
  closed_none h =
      let none : count ≡ 0 = k.short (omega arith) ∙ h in
      ap (λ x. told_after t.text (absent_of x)) (close-none (carrying_with t line count) none)

  closed-last : (length l ≡ 0 → ⊥) → closed (carrying_with t line count) ≡ finished (tell t l)
  unfolding closed last_of tell
  closed-last h =
      let a = answer_of t.replay t.store t.records l in
      ap (λ x. told_after t.text (absent_of x)) (close-last (carrying_with t line count) (unempty h) ∙ carried-left)
      ∙ absent-told a.said.replay.waiting a t.text refl (quiet t.replay t.store t.records l)

closed-from : (t : Told) (line : List ℕ) (count : ℕ) (l input : List ℕ) → Carries line count l
    → closed (fed_by (carrying_with t line count) input) ≡ finished (tell_all t (lines_from l input))
unfolding fed_by byte_fed lines_from tell_all
closed-from t line count l [] k =
    cases (eqb (length l) 0)
    (λ y. closed_none t line count l k (eqb-true (length l) 0 y) ∙ simp y)
    (λ n. closed-last t line count l k (eqb-false (length l) 0 n) ∙ simp n)
closed-from t line count l (b ∷ rest) k =
    cases (eqb b 10)
    (λ y.
    let step : byte_fed (carrying_with t line count) b ≡ line_ended (carrying_with t line count) = simp y in
    let lines : lines_from l (b ∷ rest) ≡ l ∷ lines_from [] rest = simp y in
    ap (λ s. closed (fed_by s rest)) (step ∙ carried-line t line count l k)
    ∙ closed-from (tell t l) line 0 [] rest (carries-none line k.sized)
    ∙ sym (ap (λ ls. finished (tell_all t ls)) lines))
    (λ n.
    let step : byte_fed (carrying_with t line count) b ≡ carrying_with t (line_with line count b) (count_with count) = simp n in
    let lines : lines_from l (b ∷ rest) ≡ lines_from (l ++ (b ∷ [])) rest = simp n in
    ap (λ s. closed (fed_by s rest)) step
    ∙ closed-from t (line_with line count b) (count_with count) (l ++ (b ∷ [])) rest (carries-more line count l b k)
    ∙ sym (ap (λ ls. finished (tell_all t ls)) lines))

-- an input fed from the beginning, over any buffer of 2,080 bytes, and closed, is the whole: lines, replay, store and records
pub fed-is-whole : (store records line input : List ℕ) → length line ≡ MAX_LINE → closed (fed_by (begun_with store records line) input) ≡ whole_of store records input
unfolding whole_of begun
fed-is-whole store records line input h = closed-from (begun_with store records line).told line 0 [] input (carries-none line h)
