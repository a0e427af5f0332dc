-- The words and the records that a call in place is given: those of a sound state. Records of another length than the state's cell count are refused by
-- the call itself. Assumes nothing.
use Rattle.std.specs.Prelude.{◌≡◌, true, List, ℕ, ◌*◌, eqb, length}
use Rattle.std.proofs.Common.{eqb-true}
use Rattle.refusal.specs.Tests.{split}
use Rattle.msg.specs.declared.reliable.ReliableMsg.{ReliableMsg}
use Rattle.engine.specs.Decide.{sound_withb}
use Rattle.engine.specs.CellTally.{Lent}
use Rattle.engine.specs.Receiving.{lengths_ok, message_verdict, receive_verdict, sound-lent}
use Rattle.engine.specs.Sizes.{DATA_BYTES}
use Rattle.words.specs.Meaning.{state_of}
use Rattle.words.specs.Ready.{Ready}

pub record ReadyWith (w records : List ℕ) : Type 0 where
  pub ready : Ready w
  pub recorded : length records ≡ (state_of w).rx.cells → sound_withb (state_of w) records ≡ true

pub ready-lent : (w records : List ℕ) → ReadyWith w records → length records ≡ (state_of w).rx.cells → Lent (state_of w).rx (length records)
ready-lent w records r e = sound-lent (state_of w) records (r.recorded e)

-- where both lengths are as they must be, there are as many records as cells
pub cells-lent : (w records : List ℕ) (store : ℕ) → lengths_ok (state_of w).rx store (length records) ≡ true → length records ≡ (state_of w).rx.cells
cells-lent w records store e =
    let cells = (state_of w).rx.cells in
    eqb-true (length records) cells (split (eqb store (cells * DATA_BYTES)) (eqb (length records) cells) e).1

-- .. and nothing is asked but what is asked of the message
pub receive-judged : (w records : List ℕ) (store slot : ℕ) (msg : ReliableMsg) (n len : ℕ) → ReadyWith w records → lengths_ok (state_of w).rx store (length records) ≡ true
    → receive_verdict (state_of w) store records slot msg n len ≡ message_verdict (state_of w) records slot msg n len
unfolding receive_verdict
receive-judged w records store slot msg n len r long = simp (long, r.recorded (cells-lent w records store long))
