-- What of the receiving half a stored message moves, and what a taken one: the other fields are as they were, and are not written. Assumes nothing.
use Rattle.std.specs.Prelude.{◌≡◌, refl, ℕ, ◌+◌, ◌-◌, set}
use Rattle.std.proofs.Common.{ap}
use Rattle.msg.specs.declared.reliable.ReliableMsg.{ReliableMsg}
use Rattle.engine.specs.declared.state.Receiving.{Receiving}
use Rattle.engine.specs.Cells.{can_advance, passed_over, put_in, stored_in}
use Rattle.engine.specs.Fields.{with_numbers, with_bytes, with_end}
use Rattle.engine.specs.HandingOut.{can_skip, passed_by, taken_in}
use Rattle.engine.specs.Received.{RxTable}
use Rattle.engine.specs.Turns.{turns-keep}

-- a stored message: the next expected and the oldest number, the untaken bytes and the end
abbrev pub stored_moves : Receiving → Receiving → Receiving
stored_moves old new = with_end (with_bytes (with_numbers old new.rx_seq new.rx_oldest) new.rxed_reliable_size old.rxed_reliable_consumed) new.rx_end

pub stored-moves : (N : ℕ) (t : RxTable) (msg : ReliableMsg) (n len : ℕ) → (stored_in N t msg n len).rx ≡ stored_moves t.rx (stored_in N t msg n len).rx
unfolding passed_over put_in
stored-moves N t msg n len =
    let P : RxTable → Type 0 = λ x. x.rx ≡ stored_moves t.rx x.rx in
    turns-keep (can_advance N) (passed_over N) (λ k x. P x) P
    (λ k x h e. ap (λ (rx : Receiving). with_numbers rx (passed_over N x).rx.rx_seq (passed_over N x).rx.rx_oldest) h)
    (λ k x h e. h) (λ x h. h) N (put_in N t msg n len) refl

-- a taken one: the oldest number, the untaken bytes, and those taken and untold
abbrev pub taken_moves : Receiving → Receiving → Receiving
taken_moves old new = with_bytes (with_numbers old old.rx_seq new.rx_oldest) new.rxed_reliable_size new.rxed_reliable_consumed

pub taken-moves : (N : ℕ) (t : RxTable) (bytes : ℕ) → (taken_in N t bytes).rx ≡ taken_moves t.rx (taken_in N t bytes).rx
unfolding taken_in passed_by
taken-moves N t bytes =
    let emptied = set t.records _ 0 in
    turns-keep (can_skip N emptied) passed_by (λ k x. x ≡ taken_moves t.rx x) (λ x. x ≡ taken_moves t.rx x)
    (λ k x h e. ap passed_by h)
    (λ k x h e. h) (λ x h. h) N (with_bytes (passed_by t.rx) (t.rx.rxed_reliable_size - bytes) (t.rx.rxed_reliable_consumed + bytes)) refl
