-- Document 01, "The replay program": "It writes one line a frame: answer in two hex digits, a space, next expected number in
-- eight." Assumes nothing.
use Rattle.std.specs.Prelude.{List, [], ◌∷◌, ℕ, ◌/◌, ◌^◌}
use Rattle.text.specs.Hex.{hex_digit}

-- its bytes, with the line feed
abbrev pub LINE_TEXT : ℕ
LINE_TEXT = 12

unfoldable pub text_of : ℕ → ℕ → List ℕ
text_of number next =
    hex_digit (number / 16)
    ∷ hex_digit number
    ∷ 32
    ∷ hex_digit (next / 16 ^ 7)
    ∷ hex_digit (next / 16 ^ 6)
    ∷ hex_digit (next / 16 ^ 5)
    ∷ hex_digit (next / 16 ^ 4)
    ∷ hex_digit (next / 16 ^ 3)
    ∷ hex_digit (next / 16 ^ 2)
    ∷ hex_digit (next / 16)
    ∷ hex_digit next
    ∷ 10
    ∷ []
