-- The words of a kind, counted.
use Rattle.std.specs.Prelude.{◌≡◌, refl, List, ℕ, suc, ◌+◌, eqb, cond, count_by, take}
use Rattle.std.proofs.Common.{sym, ◌∙◌, ap, arith}
use Rattle.std.proofs.lemmas.List.{take_min}
use Rattle.std.proofs.lemmas.List.Recursion.{is_count_by}
use Rattle.comparing.specs.Words.{kind_in}
use Rattle.comparing.specs.Writing.{kinds_in}
use Rattle.comparing.proofs.writing.count_kind.Goals as goal

counted : (kind : ℕ) (words : List ℕ) → kinds_in kind words ≡ count_by (λ word. eqb (kind_in word) kind) words
unfolding kinds_in
counted kind words =
    is_count_by (kinds_in kind) (λ word. eqb (kind_in word) kind) refl
    (λ word rest. let next : suc (kinds_in kind rest) ≡ 1 + kinds_in kind rest = omega arith in ap (λ n. cond (eqb (kind_in word) kind) n (kinds_in kind rest)) next) words

pub returns : goal.returns
returns c =
    let first : take c.min.result c.args.list.now ≡ take c.args.n c.args.list.now = ap (λ m. take m c.args.list.now) c.min.ensures ∙ take_min c.args.n c.args.list.now in
    c.count_in.ensures ∙ sym (counted c.args.kind _) ∙ ap (kinds_in c.args.kind) first
