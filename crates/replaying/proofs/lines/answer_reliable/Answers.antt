-- By the message.
use Rattle.std.proofs.Common.{inl, inr}
use Rattle.replaying.proofs.lines.answer_reliable.Goals as goal

pub returns-in-Data : goal.returns-in-Data
returns-in-Data c = simp c.in-Data.is

pub returns-in-Consumed : goal.returns-in-Consumed
returns-in-Consumed c =
    elim c.in-Consumed.is [
      | inl e ↦ simp (c.receive_frame.ensures, e.1)
      | inr f ↦ elim f [ inl e ↦ simp (c.receive_frame.ensures, e) | inr g ↦ elim g [ inl e ↦ simp (c.receive_frame.ensures, e) | inr e ↦ simp (c.receive_frame.ensures, e) ] ]
    ]
