-- Document 01: "A number applies only in these calls: .. 20, reading and writing". Reading refuses with nothing else. Assumes nothing.
use Rattle.std.specs.Prelude.{◌≡◌, refl, ◌≢◌, List, ℕ, Ok, Err, Result}
use Rattle.refusal.specs.declared.Refusal.{Refusal}
use Rattle.msg.specs.declared.link_msg.LinkMsg.{LinkMsg}
use Rattle.std.proofs.Common.{ap}
use Rattle.msg.specs.Reading.{reading_told, read_of}
use Rattle.msg.specs.Encoding.{Answers, answers}

-- an answer that refuses does so with 20
abbrev OnlyBytes : Result LinkMsg Refusal → Type 0
OnlyBytes r = (reading_told r).number ≢ 0 → (reading_told r).number ≡ 20

only : (bytes : List ℕ) (r : Result LinkMsg Refusal) → Answers bytes r → OnlyBytes r
only bytes (Ok msg) says h = absurd (h refl)
only bytes (Err e) says h = ap (λ (r : Result LinkMsg Refusal). (reading_told r).number) says

pub reading-number : (bytes : List ℕ) → OnlyBytes (read_of bytes)
reading-number bytes = only bytes (read_of bytes) (answers bytes)
