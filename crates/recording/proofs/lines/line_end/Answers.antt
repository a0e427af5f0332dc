-- The bytes before the first line feed are as many as its place says.
use Rattle.std.proofs.Common.{◌≡◌, ℕ, ◌+◌, ◌==◌, ◌≤◌, cond, nat_lt, List, [], ◌∷◌, length, drop, ap, ◌∙◌, arith, refl, Some, None, Option, ltb-false, length-drop}
use borrow.Table.Steps.{cases}
use lib.Seq.{take_all}
use Rattle.std.specs.Option.{unwrap_or}
use Rattle.std.specs.List.{position, position_or_len}
use Rattle.recording.specs.Lines.{until_feed, until_end}
use Rattle.recording.proofs.lines.line_end.Goals as goal

counted : (rest : List ℕ) → position_or_len (λ byte. byte == 10) rest ≡ length (until_feed rest)
unfolding until_feed
counted [] = refl
counted (b ∷ rest) = cases (b == 10) (λ t. simp t) (λ f. simp f (omega (arith, counted rest)))

short : (rest : List ℕ) → length (until_feed rest) ≤ length rest
unfolding until_feed
short [] = omega arith
short (b ∷ rest) = cases (b == 10) (λ t. simp t (omega arith)) (λ f. simp f (omega (arith, short rest)))

found : (n m : ℕ) → m ≤ n → unwrap_or (cond (nat_lt m n) (Some m) None) n ≡ m
found n m h = cases (nat_lt m n) (λ t. simp t) (λ f. simp f (omega (arith, ltb-false m n f)))

before : (rest : List ℕ) (told : Option ℕ) → told ≡ position (λ byte. byte == 10) rest → unwrap_or told (length rest) ≡ length (until_feed rest)
before rest told e =
    ap (λ (o : Option ℕ). unwrap_or o (length rest)) (e ∙ ap (λ (m : ℕ). cond (nat_lt m (length rest)) (Some m) None) (counted rest))
    ∙ found (length rest) (length (until_feed rest)) (short rest)

pub returns-then-input-at : goal.returns-then-input-at
returns-then-input-at c = omega (arith, ap length (until_end c.args.input.now c.args.at (omega arith)))

pub returns : goal.returns
returns c = let a = c.args in
    let input = a.input.now in
    ap (λ (n : ℕ). a.at + n)
    (c.unwrap_or.ensures
    ∙ before _ c.feed_in.result c.feed_in.ensures
    ∙ ap (λ (l : List ℕ). length (until_feed l)) (take_all _ (drop a.at input) (omega (arith, length-drop a.at input))))
