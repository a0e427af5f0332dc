-- A reason and its byte, read the other way about. Assumes nothing.
use Rattle.std.specs.Prelude.{◌≡◌, ℕ, ◌<◌, ◌⊎◌, List, cond, eqb, length, Result, Ok, Err, MatchResult}
use Rattle.seq.specs.declared.Seq.{Seq}
use Rattle.seq.specs.Numbers.{seq_of}
use Rattle.msg.specs.Reading.{number_at}
use Rattle.refusal.specs.declared.Refusal.{Refusal}
use Rattle.refusal.specs.Refusals.{refuse}
use Rattle.msg.specs.declared.link_msg.RefusedReason.{RefusedReason}
use Rattle.msg.specs.Messages.{reason_byte}

-- the reason that the byte stands for, or refusal 20 where it stands for none
abbrev pub Decodes : ℕ → Result RefusedReason Refusal → Type 0
Decodes byte read = MatchResult read (λ reason. reason_byte reason ≡ byte) (λ e. (e ≡ refuse 20 tt) × ((byte ≡ 0) ⊎ (4 < byte)))

-- the number that is all of a body
abbrev pub number_of : List ℕ → Result Seq Refusal
number_of body = cond (eqb (length body) 4) (Ok (seq_of (number_at body 0))) (Err (refuse 20 tt))
