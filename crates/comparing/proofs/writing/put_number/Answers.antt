-- A number's bytes from the high end on are its pairs of digits.
use Rattle.std.specs.Prelude.{◌≡◌, List, [], ◌∷◌, ℕ, ◌/◌, ◌%◌, ◌^◌, ◌<◌}
use Rattle.std.proofs.Common.{ap, arith}
use Rattle.text.specs.Hex.{hex_pair}
use Rattle.text.specs.Put.{put_one, puts_then}
use Rattle.comparing.specs.Writing.{number_parts}
use Rattle.comparing.proofs.writing.put_number.Goals as goal

parts : (n : ℕ) → n < 2 ^ 32
    → ◌≡◌ {A = List (List ℕ)} (hex_pair (n / 16777216 % 256) ∷ hex_pair (n / 65536 % 256) ∷ hex_pair (n / 256 % 256) ∷ hex_pair (n % 256) ∷ []) (number_parts n)
parts n h =
    let top : n / 16777216 % 256 ≡ n / 16777216 = omega arith in
    ap (λ high. hex_pair high ∷ hex_pair (n / 65536 % 256) ∷ hex_pair (n / 256 % 256) ∷ hex_pair (n % 256) ∷ []) top

pub returns : goal.returns
returns c =
    let text = puts_then (put_one (c.put_hex-at.ensures.value, c.put_hex-at.ensures.out_after)) (puts_then (put_one (c.put_hex-at-2.ensures.value, c.put_hex-at-2.ensures.out_after)) (puts_then (put_one (c.put_hex-at-3.ensures.value, c.put_hex-at-3.ensures.out_after)) (put_one (c.put_hex.ensures.value, c.put_hex.ensures.out_after)))) in
    rw (c.to_be_bytes.ensures, parts c.args.n (omega arith)) at text
