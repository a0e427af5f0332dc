-- Lower-case hexadecimal: what each of the 256 bytes is worth as a digit, and the digits of a number. Assumes nothing.
use Rattle.std.specs.Prelude.{cond, ◌&&◌, ◌||◌, List, [], ◌∷◌, ◌≡◌, ℕ, ◌+◌, ◌-◌, ◌*◌, ◌/◌, ◌%◌, ◌<◌, leb, ltb, Some, None, Option}
use Rattle.std.proofs.Common.{ap, arith, le-leb, ltb-true, ltb-false}
use Rattle.std.proofs.lemmas.Bool.{lt-leb}
use borrow.Table.Steps.{cases}
use Rattle.io.specs.Digits.{hex_digit_ascii}

-- `0` to `9` are worth 0 to 9, `a` to `f` 10 to 15; 16 says that a byte is no digit
unfoldable pub hex_value : ℕ → ℕ
hex_value b = cond (leb 48 b && leb b 57) (b - 48) (cond (leb 97 b && leb b 102) (b - 87) 16)

-- the digit of a number's last four bits
unfoldable pub hex_digit : ℕ → ℕ
hex_digit n = hex_digit_ascii (n % 16)

-- what two digits read as
unfoldable pub hex_byte : ℕ → ℕ → Option ℕ
hex_byte high low = cond (leb 16 (hex_value high) || leb 16 (hex_value low)) None (Some (hex_value high * 16 + hex_value low))

-- a byte's two digits
abbrev pub hex_pair : ℕ → List ℕ
hex_pair b = hex_digit (b / 16) ∷ hex_digit b ∷ []

-- ---- laws

pub a-digit-is-worth-its-number : (n : ℕ) → hex_value (hex_digit n) ≡ n % 16
unfolding hex_value hex_digit
a-digit-is-worth-its-number n =
    let small : n % 16 < 16 = omega arith in
    cases (ltb (n % 16) 10)
    (λ t.
    let h = ltb-true (n % 16) 10 t in
    simp (t, le-leb 48 (48 + n % 16) (omega arith), le-leb (48 + n % 16) 57 (omega arith)) (omega arith))
    (λ f.
    let h = ltb-false (n % 16) 10 f in
    simp (f, le-leb 48 (87 + n % 16) (omega arith), lt-leb (87 + n % 16) 57 (omega arith), le-leb 97 (87 + n % 16) (omega arith), le-leb (87 + n % 16) 102 (omega arith)) (omega arith))

pub a-byte-reads-back : (b : ℕ) → b < 256 → hex_byte (hex_digit (b / 16)) (hex_digit b) ≡ Some b
unfolding hex_byte
a-byte-reads-back b h =
    let e : b / 16 % 16 * 16 + b % 16 ≡ b = omega arith in
    simp (a-digit-is-worth-its-number, lt-leb 16 (b / 16 % 16) (omega arith), lt-leb 16 (b % 16) (omega arith)) (ap Some e)
