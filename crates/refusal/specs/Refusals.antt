-- Document 01, "Refusal numbers", with those of document 02 that have landed: the one table from numbers to names. The definitions of every layer refuse by number,
-- as the paper does, `refuse 20`; the code by name. A number that is not in the table is no refusal: 18 is none since request [9]. Assumes nothing.
use Rattle.std.specs.Prelude.{◌≡◌, refl, ◌≢◌, Bool, true, cond, ◌&&◌, List, [], ◌∷◌, ℕ, eqb}
use Rattle.std.proofs.Common.{sym, ◌∙◌, ap, arith, eqb-true}
use borrow.Table.Steps.{cases}
use Rattle.refusal.specs.declared.Refusal.{Refusal}
use Rattle.refusal.specs.declared.Refusal.TheVariants.{Unsound, StoreLength, Time, Slot, NoSlot, Identity, Length, Finished, Total, Full, Offset, Window, Acks, Buffer, Consumed, NotQueued, SameIdentity, Nothing, Bytes, Setting, Far, Many}
use Rattle.refusal.specs.Tests.{split}

-- a row of the table
pub record Row : Type 0 where
  pub number : ℕ
  pub name : Refusal

abbrev row : ℕ → Refusal → Row
row n e = record { number = n; name = e }

abbrev pub table : List Row
table =
    row 1 Unsound
    ∷ row 2 StoreLength
    ∷ row 3 Time
    ∷ row 4 Slot
    ∷ row 5 NoSlot
    ∷ row 6 Identity
    ∷ row 7 Length
    ∷ row 8 Finished
    ∷ row 9 Total
    ∷ row 10 Full
    ∷ row 11 Offset
    ∷ row 12 Window
    ∷ row 13 Acks
    ∷ row 14 Buffer
    ∷ row 15 Consumed
    ∷ row 16 NotQueued
    ∷ row 17 SameIdentity
    ∷ row 19 Nothing
    ∷ row 20 Bytes
    ∷ row 21 Setting
    ∷ row 22 Far
    ∷ row 23 Many
    ∷ []

-- what a number stands for
pub data Named : Type 0 where
  Is : Refusal → Named
  Unnamed : Named

abbrev pub named_in : List Row → ℕ → Named
named_in [] n = Unnamed
named_in (r ∷ rows) n = cond (eqb r.number n) (Is r.name) (named_in rows n)

abbrev pub named : ℕ → Named
named n = named_in table n

-- the refusal that the paper numbers n: only a number of the table has one
abbrev pub IsName : Named → Type 0
IsName (Is e) = Unit
IsName Unnamed = ⊥

abbrev pub name_of : (x : Named) → IsName x → Refusal
name_of (Is e) in_table = e
name_of Unnamed in_table = absurd in_table

abbrev pub refuse : (n : ℕ) → IsName (named n) → Refusal
refuse n in_table = name_of (named n) in_table

-- the paper's number of a refusal
abbrev pub number_of : Refusal → ℕ
number_of Unsound = 1
number_of StoreLength = 2
number_of Time = 3
number_of Slot = 4
number_of NoSlot = 5
number_of Identity = 6
number_of Length = 7
number_of Finished = 8
number_of Total = 9
number_of Full = 10
number_of Offset = 11
number_of Window = 12
number_of Acks = 13
number_of Buffer = 14
number_of Consumed = 15
number_of NotQueued = 16
number_of SameIdentity = 17
number_of Nothing = 19
number_of Bytes = 20
number_of Setting = 21
number_of Far = 22
number_of Many = 23

-- ---- laws: the two readings of the table agree

pub number-named : (e : Refusal) → named (number_of e) ≡ Is e
number-named Unsound = refl
number-named StoreLength = refl
number-named Time = refl
number-named Slot = refl
number-named NoSlot = refl
number-named Identity = refl
number-named Length = refl
number-named Finished = refl
number-named Total = refl
number-named Full = refl
number-named Offset = refl
number-named Window = refl
number-named Acks = refl
number-named Buffer = refl
number-named Consumed = refl
number-named NotQueued = refl
number-named SameIdentity = refl
number-named Nothing = refl
number-named Bytes = refl
number-named Setting = refl
number-named Far = refl
number-named Many = refl

-- every row has its name's number
abbrev numbered : List Row → Bool
numbered [] = true
numbered (r ∷ rows) = eqb (number_of r.name) r.number && numbered rows

named-number-in : (rows : List Row) (n : ℕ) (e : Refusal) → numbered rows ≡ true → named_in rows n ≡ Is e → number_of e ≡ n
named-number-in [] n e ok h = let z : ◌≡◌ {A = ℕ} 0 1 = cc in absurd (omega arith)
named-number-in (r ∷ rows) n e ok h =
    let here = split (eqb (number_of r.name) r.number) (numbered rows) ok in
    cases (eqb r.number n)
    (λ t.
    let found : Is r.name ≡ Is e = simp t at h in
    let same : r.name ≡ e = cc in
    sym (ap number_of same) ∙ eqb-true _ _ here.0 ∙ eqb-true _ _ t)
    (λ t. named-number-in rows n e here.1 (simp t at h))

-- a number stands for no refusal but the one that bears it
pub named-number : (n : ℕ) (e : Refusal) → named n ≡ Is e → number_of e ≡ n
named-number n e h = named-number-in table n e refl h

-- document 02, [9]: "take the branch and its number out, and keep the number unused"
pub unused-18 : named 18 ≡ Unnamed
unused-18 = refl

pub none-bears-18 : (e : Refusal) → number_of e ≢ 18
none-bears-18 Unsound = λ h. omega arith
none-bears-18 StoreLength = λ h. omega arith
none-bears-18 Time = λ h. omega arith
none-bears-18 Slot = λ h. omega arith
none-bears-18 NoSlot = λ h. omega arith
none-bears-18 Identity = λ h. omega arith
none-bears-18 Length = λ h. omega arith
none-bears-18 Finished = λ h. omega arith
none-bears-18 Total = λ h. omega arith
none-bears-18 Full = λ h. omega arith
none-bears-18 Offset = λ h. omega arith
none-bears-18 Window = λ h. omega arith
none-bears-18 Acks = λ h. omega arith
none-bears-18 Buffer = λ h. omega arith
none-bears-18 Consumed = λ h. omega arith
none-bears-18 NotQueued = λ h. omega arith
none-bears-18 SameIdentity = λ h. omega arith
none-bears-18 Nothing = λ h. omega arith
none-bears-18 Bytes = λ h. omega arith
none-bears-18 Setting = λ h. omega arith
none-bears-18 Far = λ h. omega arith
none-bears-18 Many = λ h. omega arith
