-- Document 01: "When an answer is an enum, a definition gives this paper's number and values for each of its cases." What a caller is
-- told: the number, 0 or a refusal's, and the values that come with 0, in the paper's order. "Each returns its number alone".
-- Assumes nothing.
use Rattle.std.specs.Prelude.{Bool, true, false, List, [], ℕ, Ok, Err}
use Rattle.refusal.specs.Verdicts.{Verdict}
use Rattle.refusal.specs.declared.Refusal.{Refusal}
use Rattle.refusal.specs.Refusals.{number_of}

pub record Told : Type 0 where
  pub number : ℕ
  pub values : List ℕ

-- "0 is success"
abbrev pub success : List ℕ → Told
success values = record { number = 0; values = values }

abbrev pub refused : Refusal → Told
refused e = record { number = number_of e; values = [] }

-- what a verdict tells, with the values of a call that passes
abbrev pub told_by : Verdict → List ℕ → Told
told_by (Ok tt) values = success values
told_by (Err e) values = refused e

-- a flag as a value
abbrev pub flag : Bool → ℕ
flag true = 1
flag false = 0
