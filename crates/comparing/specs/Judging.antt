-- Document 02 [6]: "At most 1,024 numbers a side"; "Refusals: 20 for a bad line; 22 for a number far from the start number; 23 Many, when a
-- side has more; in that order over both recordings." Each with the recording and the line that gives it. Assumes nothing.
use Rattle.std.specs.Prelude.{◌≡◌, refl, Bool, false, cond, ◌||◌, List, [], ◌∷◌, ℕ, zero, suc, eqb, ltb, length, Some, None, Option, Ok, Err, Result}
use Rattle.std.proofs.Common.{arith, eqb-true, ne_eqb}
use borrow.Table.Steps.{cases}
use Rattle.refusal.specs.declared.Refusal.{Refusal}
use Rattle.refusal.specs.Refusals.{refuse}
use Rattle.comparing.specs.Sizes.{NUMBERS}
use Rattle.comparing.specs.declared.messages.Message.{Message}
use Rattle.comparing.specs.declared.comparison.Side.{Side}
use Rattle.comparing.specs.declared.comparison.Side.TheVariants as sides
use Rattle.comparing.specs.Messages.{body_of, start_of}
use Rattle.comparing.specs.Ranks.{far_at}

-- the line of the first message whose number is far from the start number, 0 where none is
unfoldable pub far_line : ℕ → List Message → ℕ
unfolding far_at
far_line start [] = 0
far_line start (m ∷ rest) = cond (eqb (far_at start m) 0) (far_line start rest) (far_at start m)

unfoldable pub is_among : ℕ → List ℕ → Bool
is_among n [] = false
is_among n (x ∷ rest) = eqb x n || is_among n rest

-- a number more, if it is another
unfoldable pub with_number : ℕ → List ℕ → List ℕ
unfolding is_among
with_number n seen = cond (is_among n seen) seen (n ∷ seen)

-- the numbers of messages, each once, the last first
unfoldable pub numbers_with : List ℕ → List Message → List ℕ
unfolding with_number
numbers_with seen [] = seen
numbers_with seen (m ∷ rest) = numbers_with (with_number m.number.0 seen) rest

-- the line of the first number past 1,024, 0 where there is none
unfoldable pub many_line : List ℕ → List Message → ℕ
unfolding with_number
many_line seen [] = 0
many_line seen (m ∷ rest) = cond (ltb NUMBERS (length (with_number m.number.0 seen))) m.line (many_line (with_number m.number.0 seen) rest)

-- a refusal where a line is told, else what the later ones say
unfoldable pub told_at : ℕ → Refusal → Side → Result Unit (Refusal × Side × ℕ) → Result Unit (Refusal × Side × ℕ)
told_at line e side rest = cond (eqb line 0) rest (Err (e, side, line))

-- "two that differ give 20": of the second, at its first line
unfoldable pub starts_part : ℕ → ℕ → ℕ
starts_part a b = cond (eqb a b) 0 1

-- the lines to be told, in the order of the refusals
abbrev pub in_order : ℕ → ℕ → ℕ → ℕ → ℕ → ℕ → ℕ → Result Unit (Refusal × Side × ℕ)
in_order bad-first bad-second starts far-first far-second many-first many-second =
    told_at bad-first (refuse 20 tt) sides.First
    (told_at bad-second (refuse 20 tt) sides.Second
    (told_at starts (refuse 20 tt) sides.Second
    (told_at far-first (refuse 22 tt) sides.First
    (told_at far-second (refuse 22 tt) sides.Second
    (told_at many-first (refuse 23 tt) sides.First
    (told_at many-second (refuse 23 tt) sides.Second
    (Ok tt)))))))

unfoldable pub verdict_of : List ℕ → List ℕ → Result Unit (Refusal × Side × ℕ)
unfolding told_at starts_part body_of start_of far_line many_line
verdict_of a b =
    in_order (body_of a).bad (body_of b).bad (starts_part (start_of a) (start_of b))
    (far_line (start_of a) (body_of a).messages) (far_line (start_of b) (body_of b).messages)
    (many_line [] (body_of a).messages) (many_line [] (body_of b).messages)

-- the same by lines that may be none, as the code has them
abbrev pub line_in : ℕ → Option ℕ
line_in zero = None
line_in (suc n) = Some (suc n)

abbrev pub told_in : Option ℕ → Refusal → Side → Result Unit (Refusal × Side × ℕ) → Result Unit (Refusal × Side × ℕ)
told_in None e side rest = rest
told_in (Some line) e side rest = Err (e, side, line)

unfoldable pub starts_in : ℕ → ℕ → Option ℕ
starts_in a b = cond (eqb a b) None (Some 1)

abbrev pub lines_in_order : Option ℕ → Option ℕ → Option ℕ → Option ℕ → Option ℕ → Option ℕ → Option ℕ → Result Unit (Refusal × Side × ℕ)
lines_in_order bad-first bad-second starts far-first far-second many-first many-second =
    told_in bad-first (refuse 20 tt) sides.First
    (told_in bad-second (refuse 20 tt) sides.Second
    (told_in starts (refuse 20 tt) sides.Second
    (told_in far-first (refuse 22 tt) sides.First
    (told_in far-second (refuse 22 tt) sides.Second
    (told_in many-first (refuse 23 tt) sides.First
    (told_in many-second (refuse 23 tt) sides.Second
    (Ok tt)))))))

-- ---- laws

told-pass : (line : ℕ) (e : Refusal) (side : Side) (rest : Result Unit (Refusal × Side × ℕ)) → told_at line e side rest ≡ Ok tt → (line ≡ 0) × (rest ≡ Ok tt)
unfolding told_at
told-pass line e side rest h =
    cases (eqb line 0)
    (λ t. (eqb-true line 0 t, simp t at h))
    (λ f. let z : ◌≡◌ {A = ℕ} 0 1 = cc (simp f at h) in absurd (omega arith))

-- who passed has one start number, no number far from it, and at most 1,024 numbers a side
pub passed-says : (p q starts f g m n : ℕ) → in_order p q starts f g m n ≡ Ok tt → (starts ≡ 0) × (f ≡ 0) × (g ≡ 0) × (m ≡ 0) × (n ≡ 0)
passed-says p q starts f g m n h =
    let a = told-pass p _ _ _ h in
    let b = told-pass q _ _ _ a.1 in
    let c = told-pass starts _ _ _ b.1 in
    let d = told-pass f _ _ _ c.1 in
    let e = told-pass g _ _ _ d.1 in
    let i = told-pass m _ _ _ e.1 in
    let j = told-pass n _ _ _ i.1 in
    (c.0, d.0, e.0, i.0, j.0)

-- what the later refusals say counts only where no line is told
told_same : (line : ℕ) (e : Refusal) (side : Side) (rest other : Result Unit (Refusal × Side × ℕ)) → (line ≡ 0 → rest ≡ other) → told_in (line_in line) e side rest ≡ told_at line e side other
unfolding told_at
told_same zero e side rest other h = h refl
told_same (suc n) e side rest other h = simp (ne_eqb (suc n) 0 (λ e. omega arith))

pub starts-in : (a b : ℕ) → starts_in a b ≡ line_in (starts_part a b)
unfolding starts_in starts_part
starts-in a b = cases (eqb a b) (λ t. simp t) (λ f. simp f)

-- so 23 counts only where 22 is not given
pub order_same : (p q starts f g : ℕ) (m n : Option ℕ) (k l : ℕ) → (f ≡ 0 → m ≡ line_in k) → (g ≡ 0 → n ≡ line_in l)
    → lines_in_order (line_in p) (line_in q) (line_in starts) (line_in f) (line_in g) m n ≡ in_order p q starts f g k l
order_same p q starts f g m n k l x y =
    told_same p _ _ _ _
    (λ u.
    told_same q _ _ _ _
    (λ v.
    told_same starts _ _ _ _
    (λ w.
    told_same f _ _ _ _
    (λ near-first. told_same g _ _ _ _ (λ near-second. rw (x near-first, y near-second) (told_same k _ _ _ _ (λ i. told_same l _ _ _ _ (λ j. refl))))))))

pub starts-same : (a b : ℕ) → starts_part a b ≡ 0 → a ≡ b
unfolding starts_part
starts-same a b h =
    cases (eqb a b)
    (λ t. eqb-true a b t)
    (λ f. let z : ◌≡◌ {A = ℕ} 1 0 = simp f at h in absurd (omega arith))
