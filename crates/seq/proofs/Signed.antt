-- How the code reads a wrapped difference, in the words of `signed` and `distance_of`: it is stored as 32 bits, and read back as a
-- signed number. Assumes nothing.
use Rattle.std.proofs.Common.{◌≡◌, ℕ, ◌+◌, ◌^◌, ◌<◌, ◌≤◌, true, false, ℤ, pos, negsuc, nat_abs, refl, ap, arith, w32, Some, None, Option, ltb, le-leb, le-ltb}
use Rattle.std.proofs.lemmas.Bool.{lt-leb}
use Rattle.std.specs.Option.{is_some}
use Rattle.std.specs.Result.{OkIff, result_unwrap_or}
use Rattle.std.specs.Int.{FitsUnsignedBits}
use Rattle.std.specs.Prelude.{Result, Ok, Err}
use borrow.Table.Steps.{cases}
use lib.Signed.{mag, lt_z}
use mir.ValLaws.{to_z-of_z}
use mir.Val.{to_z, of_z}
use Rattle.seq.specs.Numbers.{minus, signed}
use Rattle.seq.specs.Distance.{distance_of, is_far, is_by, is_behind, past_as, by-small}

pub read_signed : (d : ℕ) → to_z w32 d ≡ signed d
unfolding signed
read_signed d = cases (ltb d (2 ^ 31)) (λ t. simp t) (λ f. simp f (ap negsuc (omega arith)))

is_far-near : (z : ℤ) → nat_abs z < 2 ^ 30 → is_far z ≡ false
is_far-near (pos n) h = lt-leb (2 ^ 30) n h
is_far-near (negsuc n) h = lt-leb (2 ^ 30) (n + 1) (omega arith)

is_far-far : (z : ℤ) → 2 ^ 30 ≤ nat_abs z → is_far z ≡ true
is_far-far (pos n) h = le-leb (2 ^ 30) n h
is_far-far (negsuc n) h = le-leb (2 ^ 30) (n + 1) (omega arith)

module _ (a b : ℕ) (z : ℤ) (read : z ≡ signed (minus a b)) where
  -- the one place tells what is less than 2^30 away ..
  pub told-near : nat_abs z < 2 ^ 30 → Some z ≡ distance_of a b
  unfolding distance_of
  told-near h = rw (← read, is_far-near z h) refl

  -- .. and nothing else
  pub told-far : 2 ^ 30 ≤ nat_abs z → None ≡ distance_of a b
  unfolding distance_of
  told-far h = rw (← read, is_far-far z h) refl

-- a distance that is told fits 32 bits, signed, so that it is read as it was stored
pub read_back : (a b : ℕ) (d : ℤ) → distance_of a b ≡ Some d → to_z w32 (of_z w32 d) ≡ d
read_back a b d e = to_z-of_z w32 d (record { sfits = omega (arith, by-small a b d e) })

-- behind is what the comparison with 0 tests
pub below-zero : (z : ℤ) → lt_z z (pos 0) ≡ is_behind (Some z)
below-zero (pos n) = le-ltb n 0 (omega arith)
below-zero (negsuc n) = refl

pub by-some : (told : Option ℤ) → is_some told ≡ is_by told
by-some (Some d) = refl
by-some None = refl

pub told-small : (d : ℤ) → mag d < 2 ^ 30 → nat_abs d < 2 ^ 32
told-small (pos n) h = omega arith
told-small (negsuc n) h = omega arith

-- what isn't negative is how far past; else 2^30
pub past_read : {E : Type 0} (d : ℤ) (r : Result ℕ E) → nat_abs d < 2 ^ 32 → OkIff r (FitsUnsignedBits 32 d) (nat_abs d) → result_unwrap_or r (2 ^ 30) ≡ past_as (Some d)
past_read (pos n) (Ok k) small says = says.1
past_read (pos n) (Err e) small says = absurd (says small)
past_read (negsuc n) (Ok k) small says = absurd says.0
past_read (negsuc n) (Err e) small says = refl
