-- A run of calls: the plain calls one after another, each with its answer written. Assumes nothing.
use Rattle.std.specs.Prelude.{◌≡◌, Bool, true, false, cond, ◌&&◌, List, ℕ, zero, suc, ◌+◌, ◌*◌, ◌/◌, ◌≤◌, eqb, leb, length, set, take, drop}
use Rattle.std.proofs.Common.{ap, add-one, arith, leb-true, leb-false}
use borrow.Table.Steps.{cases}
use Rattle.std.proofs.lemmas.Bool.{eqb-false}
use Rattle.std.proofs.lemmas.List.Edits.{sets}
use Rattle.refusal.specs.Answers.{Told}
use Rattle.refusal.specs.Tests.{split}
use Rattle.engine.specs.Decide.{soundb, recordsb, sound_withb}
use Rattle.engine.specs.Received.{table_of}
use Rattle.words.specs.Layout.{WORDS}
use Rattle.words.specs.Meaning.{state_of}
use Rattle.words.specs.Ready.{Words64}
use Rattle.judging.specs.Words.{unlike-words, sound-long}
use Rattle.receiving_in_place.specs.ReadyWith.{ReadyWith}
use Rattle.laws.specs.Calls.{Holding}
use Rattle.runs.specs.declared.answers.Answer.{Answer}
use Rattle.runs.specs.Asked.{asked_of}
use Rattle.runs.specs.Answers.{answer_of, answer_words, told_of, next_of}
use Rattle.runs.specs.Did.{holding_of, Did}

-- what is held, and the answers so far
pub record Run : Type 0 where
  pub held : Holding
  pub answers : List ℕ

abbrev pub run_of : (words sent received records answers : List ℕ) → Run
run_of w s v c a = record { held = holding_of w s v c; answers = a }

-- an answer's four words, from a place on
unfoldable pub put : List ℕ → ℕ → Answer → List ℕ
put a at r = set (set (set (set a at r.number) (at + 1) r.first) (at + 2) r.second) (at + 3) r.third

-- the words of a call
abbrev pub call_at : List ℕ → ℕ → List ℕ
call_at calls i = take 8 (drop (i * 8) calls)

-- one call and its answer
unfoldable pub stepped : (calls bytes : List ℕ) → ℕ → Run → Run
unfolding put asked_of
stepped calls bytes i x =
    let asked = asked_of (call_at calls i) bytes in
    record { held = next_of asked x.held; answers = put x.answers (i * 4) (answer_of (told_of asked x.held)) }

-- so many calls, from the first on
unfoldable pub ran : ℕ → (calls bytes : List ℕ) → Run → Run
unfolding stepped
ran zero calls bytes x = x
ran (suc n) calls bytes x = stepped calls bytes n (ran n calls bytes x)

-- as many calls as have both their words and room for their answer
abbrev pub room_for : (calls answers : ℕ) → ℕ
room_for calls answers = cond (leb (calls / 8) (answers / 4)) (calls / 8) (answers / 4)

-- the words are sound, and records that are as many as the cells are so with them
unfoldable pub readyb : (words records : List ℕ) → Bool
readyb w c = cond (eqb (length c) (state_of w).rx.cells) (sound_withb (state_of w) c) (soundb (state_of w))

-- between two calls: words and records are those of a sound state, no length is another, and what is held and written is what the calls so far leave
pub record Going (w0 s0 v0 c0 a0 calls bytes : List ℕ) (count i : ℕ) (w s v c a : List ℕ) : Type 0 where
  pub left : i ≤ count
  pub ready : ReadyWith w c
  pub small : Words64 w
  pub words_long : length w ≡ length w0
  pub sent-long : length s ≡ length s0
  pub received-long : length v ≡ length v0
  pub records-long : length c ≡ length c0
  pub answers-long : length a ≡ length a0
  pub so_far : run_of w s v c a ≡ ran i calls bytes (run_of w0 s0 v0 c0 a0)

-- ---- laws

pub unlike-ready : (w c : List ℕ) → (length w ≡ WORDS → ⊥) → false ≡ readyb w c
unfolding readyb sound_withb
unlike-ready w c ne =
    let bad = unlike-words w ne in
    cases (eqb (length c) (state_of w).rx.cells) (λ t. simp (t, bad)) (λ f. simp (f, bad))

pub ready-true : (w c : List ℕ) → readyb w c ≡ true → ReadyWith w c
unfolding readyb sound_withb
ready-true w c e =
    cases (eqb (length c) (state_of w).rx.cells)
    (λ t.
    let all : (soundb (state_of w) && recordsb (table_of (state_of w).rx c)) ≡ true = simp t at e in
    let judged = (split (soundb (state_of w)) (recordsb (table_of (state_of w).rx c)) all).0 in
    record { ready = record { long = sound-long w judged; judged = judged }; recorded = λ q. all })
    (λ f.
    let judged : soundb (state_of w) ≡ true = simp f at e in
    record { ready = record { long = sound-long w judged; judged = judged }; recorded = λ q. absurd (eqb-false (length c) (state_of w).rx.cells f q) })

-- one call more
pub ran_on : (n : ℕ) (calls bytes : List ℕ) (x y : Run) → y ≡ ran n calls bytes x → stepped calls bytes n y ≡ ran (n + 1) calls bytes x
unfolding ran
ran_on n calls bytes x y e = rw (add-one n) (ap (stepped calls bytes n) e)

-- a call and its answer as they were done
pub did-step : (calls bytes : List ℕ) (i : ℕ) (w s v c a w2 s2 v2 c2 : List ℕ) (r : Answer) → Did (asked_of (call_at calls i) bytes) w s v c w2 s2 v2 c2 r
    → run_of w2 s2 v2 c2 (put a (i * 4) r) ≡ stepped calls bytes i (run_of w s v c a)
unfolding stepped
did-step calls bytes i w s v c a w2 s2 v2 c2 r d = λ j. record { held = d.held j; answers = put a (i * 4) (d.answered j) }

-- there is room for them
pub room_fits : (calls answers : ℕ) → (room_for calls answers * 8 ≤ calls) × (room_for calls answers * 4 ≤ answers)
room_fits calls answers =
    let a : calls / 8 * 8 ≤ calls = omega arith in
    let b : answers / 4 * 4 ≤ answers = omega arith in
    cases (leb (calls / 8) (answers / 4))
    (λ t. let l = leb-true (calls / 8) (answers / 4) t in simp t (a, omega arith))
    (λ f. let l = leb-false (calls / 8) (answers / 4) f in simp f (omega arith, b))

-- what is written is the answer's words, in order
pub put-words : (a : List ℕ) (at : ℕ) (t : Told) → put a at (answer_of t) ≡ sets a at (answer_words t)
unfolding put
put-words a at t =
    let one : at + 1 ≡ suc at = add-one at in
    let two : at + 2 ≡ suc (suc at) = omega arith in
    let three : at + 3 ≡ suc (suc (suc at)) = omega arith in
    simp (one, two, three)
