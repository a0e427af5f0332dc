-- By the message: a Data awaits its payload, and any other is whole.
use Rattle.std.proofs.Common.{inl, inr}
use Rattle.comparing.proofs.messages.find_reliable.Goals as goal

pub returns-in-Data : goal.returns-in-Data
returns-in-Data c = simp c.in-Data.is

pub returns-in-Consumed : goal.returns-in-Consumed
returns-in-Consumed c = elim c.in-Consumed.is [ inl e ↦ simp e.1 | inr f ↦ elim f [ inl e ↦ simp e | inr g ↦ elim g [ inl e ↦ simp e | inr e ↦ simp e ] ] ]
