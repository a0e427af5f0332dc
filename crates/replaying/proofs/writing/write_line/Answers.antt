-- Each byte by its two digits.
use Rattle.std.specs.Prelude.{◌≡◌, ℕ, ◌/◌, ◌%◌}
use Rattle.std.proofs.Common.{arith}
use Rattle.text.specs.Hex.{hex_digit}
use Rattle.replaying.specs.Writing.{text_of}
use Rattle.replaying.proofs.writing.write_line.Goals as goal

-- a digit is of the last four bits
same : (n m : ℕ) → n % 16 ≡ m % 16 → hex_digit n ≡ hex_digit m
unfolding hex_digit
same n m e = rw e

module _ (n : ℕ) where
  high₃ : hex_digit (n / 16777216 % 256 / 16) ≡ hex_digit (n / 268435456)
  high₃ = same (n / 16777216 % 256 / 16) (n / 268435456) (omega arith)

  low₃ : hex_digit (n / 16777216 % 256) ≡ hex_digit (n / 16777216)
  low₃ = same (n / 16777216 % 256) (n / 16777216) (omega arith)

  high₂ : hex_digit (n / 65536 % 256 / 16) ≡ hex_digit (n / 1048576)
  high₂ = same (n / 65536 % 256 / 16) (n / 1048576) (omega arith)

  low₂ : hex_digit (n / 65536 % 256) ≡ hex_digit (n / 65536)
  low₂ = same (n / 65536 % 256) (n / 65536) (omega arith)

  high₁ : hex_digit (n / 256 % 256 / 16) ≡ hex_digit (n / 4096)
  high₁ = same (n / 256 % 256 / 16) (n / 4096) (omega arith)

  low₁ : hex_digit (n / 256 % 256) ≡ hex_digit (n / 256)
  low₁ = same (n / 256 % 256) (n / 256) (omega arith)

  high₀ : hex_digit (n % 256 / 16) ≡ hex_digit (n / 16)
  high₀ = same (n % 256 / 16) (n / 16) (omega arith)

  low₀ : hex_digit (n % 256) ≡ hex_digit n
  low₀ = same (n % 256) n (omega arith)

pub returns : goal.returns
unfolding text_of
returns c =
    let n = c.args.next.0 in
    simp (
      c.hex_digit.ensures,
      c.hex_digit-2.ensures,
      c.hex_digit-3.ensures,
      c.hex_digit-4.ensures,
      c.hex_digit-5.ensures,
      c.hex_digit-6.ensures,
      c.hex_digit-7.ensures,
      c.hex_digit-8.ensures,
      c.hex_digit-9.ensures,
      c.hex_digit-10.ensures,
      c.to_be_bytes.ensures,
    )
    (rw (high₃ n, low₃ n, high₂ n, low₂ n, high₁ n, low₁ n, high₀ n, low₀ n))
