-- Document 01, "Message bytes (002)": "Every other message of this list reads back as written." Assumes nothing.
use Rattle.std.specs.Prelude.{◌≡◌, refl, Bool, true, false, List, [], ◌∷◌, ◌++◌, ℕ, zero, suc, ◌+◌, ◌*◌, ◌/◌, ◌%◌, ◌^◌, ◌≤◌, ◌<◌, length, take, drop, get_or, ltb, Ok}
use Rattle.std.proofs.Common.{sym, ap, ◌∙◌, div-add-mod', mod-eq_of_lt, add-one, arith, length-append, take_at, ltb-true, ltb-false, le-leb, eq-eqb}
use Rattle.std.proofs.Math.Nat.{div-div-eq-div-mul}
use Rattle.std.proofs.Math.ListN.{get_or-append}
use Rattle.std.proofs.lemmas.List.{get_or_at}
use borrow.Table.Steps.{cases}
use Rattle.seq.specs.declared.Seq.{Seq}
use Rattle.seq.specs.Numbers.{seq_of}
use Rattle.msg.specs.declared.link_msg.RefusedReason.{RefusedReason}
use Rattle.msg.specs.declared.link_msg.RefusedReason.TheVariants.{Closed, NotListening, ConnectionRefused, LinkRefused}
use Rattle.msg.specs.declared.link_msg.LinkMsg.{LinkMsg}
use Rattle.msg.specs.declared.link_msg.LinkMsg.TheVariants.{Welcome, Connect, Accepted, Refused, Ping, Pong, Data, Ack, Consumed, SendFinish, ReceiveClose, ReceiveFinish, TestData, SetBlock, Goodbye, Terminate}
use Rattle.msg.specs.Messages.{be32, pattern, bytes_of, handshake}
use Rattle.msg.specs.Reading.{bad, number_at, exactly, opens_with, read_alone, read_refused, read_numbered, read_consumed, read_test_data, read_set_block, read_kind, read_of}
use Rattle.msg.specs.Writing.{writable, buffer_of}
use Rattle.refusal.specs.Tests.{false-true}

-- the numbers of a message are u32, as its type says
abbrev pub Ranged : LinkMsg → Type 0
Ranged Welcome = Unit
Ranged Connect = Unit
Ranged Accepted = Unit
Ranged (Refused reason) = Unit
Ranged Ping = Unit
Ranged Pong = Unit
Ranged (Data seq) = seq.0 < 2 ^ 32
Ranged (Ack received) = received.0 < 2 ^ 32
Ranged (Consumed seq consumed) = (seq.0 < 2 ^ 32) × (consumed < 2 ^ 32)
Ranged (SendFinish seq) = seq.0 < 2 ^ 32
Ranged (ReceiveClose seq) = seq.0 < 2 ^ 32
Ranged (ReceiveFinish seq) = seq.0 < 2 ^ 32
Ranged (TestData size) = Unit
Ranged (SetBlock blocked) = Unit
Ranged Goodbye = Unit
Ranged Terminate = Unit

-- four bytes give their number back
digits : (n a b c r₀ r₁ r₂ r₃ : ℕ) → a * 256 + r₀ ≡ n → b * 256 + r₁ ≡ a → c * 256 + r₂ ≡ b → r₃ ≡ c → ((r₃ * 256 + r₂) * 256 + r₁) * 256 + r₀ ≡ n
digits n a b c r₀ r₁ r₂ r₃ e₀ e₁ e₂ e₃ = omega arith

four_bytes : (n : ℕ) → n < 2 ^ 32 → ((n / 2 ^ 24 % 256 * 256 + n / 2 ^ 16 % 256) * 256 + n / 2 ^ 8 % 256) * 256 + n % 256 ≡ n
four_bytes n h =
    digits n (n / 2 ^ 8) (n / 2 ^ 16) (n / 2 ^ 24) (n % 256) (n / 2 ^ 8 % 256) (n / 2 ^ 16 % 256) (n / 2 ^ 24 % 256)
    (div-add-mod' n 256)
    (ap (λ (b : ℕ). b * 256 + n / 2 ^ 8 % 256) (sym (div-div-eq-div-mul n (2 ^ 8) (2 ^ 8))) ∙ div-add-mod' (n / 2 ^ 8) 256)
    (ap (λ (c : ℕ). c * 256 + n / 2 ^ 16 % 256) (sym (div-div-eq-div-mul n (2 ^ 16) (2 ^ 8))) ∙ div-add-mod' (n / 2 ^ 16) 256)
    (mod-eq_of_lt (omega arith))

-- a number alone is the whole body
numbered-back : (msg : Seq → LinkMsg) (seq : Seq) → seq.0 < 2 ^ 32 → read_numbered msg (be32 seq.0) ≡ Ok (msg seq)
unfolding read_numbered exactly be32 number_at
numbered-back msg seq h = ap (λ (n : ℕ). Ok (msg (seq_of n))) (four_bytes seq.0 h)

pub length-pattern : (n : ℕ) → length (pattern n) ≡ n
unfolding pattern
length-pattern zero = refl
length-pattern (suc n) = length-append (pattern n) (n % 256 ∷ []) ∙ ap (λ k. k + 1) (length-pattern n) ∙ add-one n

-- the byte at a place is the place's remainder
pub pattern-at : (n i : ℕ) → i < n → get_or (pattern n) i 0 ≡ i % 256
unfolding pattern
pattern-at zero i h = absurd (omega arith)
pattern-at (suc n) i h =
    cases (ltb i n)
    (λ t. let before = ltb-true i n t in get_or-append (pattern n) (n % 256 ∷ []) 0 i (omega (arith, before, length-pattern n)) ∙ pattern-at n i before)
    (λ t. let last : i ≡ n = omega (arith, ltb-false i n t) in get_or_at (pattern n) (n % 256) [] 0 i (length-pattern n ∙ sym last) ∙ ap (λ k. k % 256) (sym last))

-- bytes open with themselves
opens-itself : (bytes : List ℕ) → opens_with bytes bytes ≡ true
unfolding opens_with
opens-itself [] = refl
opens-itself (b ∷ bytes) = simp (eq-eqb b b refl) (opens-itself bytes)

consumed-back : (seq : Seq) (consumed : ℕ) → (seq.0 < 2 ^ 32) × (consumed < 2 ^ 32) → read_consumed (be32 seq.0 ++ be32 consumed) ≡ Ok (Consumed seq consumed)
unfolding read_consumed exactly be32 number_at
consumed-back seq consumed r = simp (four_bytes seq.0 r.0, four_bytes consumed r.1)

refused-back : (reason : RefusedReason) → read_of (bytes_of (Refused reason)) ≡ Ok (Refused reason)
unfolding read_of read_kind read_refused exactly
refused-back Closed = refl
refused-back NotListening = refl
refused-back ConnectionRefused = refl
refused-back LinkRefused = refl

block_back : (blocked : Bool) → read_of (bytes_of (SetBlock blocked)) ≡ Ok (SetBlock blocked)
unfolding read_of read_kind read_set_block exactly
block_back false = refl
block_back true = refl

-- what may be written reads back as it was written
pub reads-back : (msg : LinkMsg) → Ranged msg → writable msg ≡ true → read_of (bytes_of msg) ≡ Ok msg
unfolding read_of read_kind read_alone read_test_data exactly
reads-back Welcome r w = false-true w
reads-back Connect r w = false-true w
reads-back Accepted r w = refl
reads-back (Refused reason) r w = refused-back reason
reads-back Ping r w = refl
reads-back Pong r w = refl
reads-back (Data seq) r w = numbered-back Data seq r
reads-back (Ack received) r w = numbered-back Ack received r
reads-back (Consumed seq consumed) r w = consumed-back seq consumed r
reads-back (SendFinish seq) r w = numbered-back SendFinish seq r
reads-back (ReceiveClose seq) r w = numbered-back ReceiveClose seq r
reads-back (ReceiveFinish seq) r w = numbered-back ReceiveFinish seq r
reads-back (TestData size) r w = simp (length-pattern, opens-itself, w)
reads-back (SetBlock blocked) r w = block_back blocked
reads-back Goodbye r w = refl
reads-back Terminate r w = refl

-- what writing refuses with 20 is the handshake pair and "what reading refuses"
pub unwritable-is-unreadable : (msg : LinkMsg) → handshake msg ≡ false → writable msg ≡ false → read_of (bytes_of msg) ≡ bad
unfolding read_of read_kind read_test_data
unwritable-is-unreadable Welcome n w = false-true (sym n)
unwritable-is-unreadable Connect n w = false-true (sym n)
unwritable-is-unreadable Accepted n w = false-true (sym w)
unwritable-is-unreadable (Refused reason) n w = false-true (sym w)
unwritable-is-unreadable Ping n w = false-true (sym w)
unwritable-is-unreadable Pong n w = false-true (sym w)
unwritable-is-unreadable (Data seq) n w = false-true (sym w)
unwritable-is-unreadable (Ack received) n w = false-true (sym w)
unwritable-is-unreadable (Consumed seq consumed) n w = false-true (sym w)
unwritable-is-unreadable (SendFinish seq) n w = false-true (sym w)
unwritable-is-unreadable (ReceiveClose seq) n w = false-true (sym w)
unwritable-is-unreadable (ReceiveFinish seq) n w = false-true (sym w)
unwritable-is-unreadable (TestData size) n w = simp (length-pattern, w)
unwritable-is-unreadable (SetBlock blocked) n w = false-true (sym w)
unwritable-is-unreadable Goodbye n w = false-true (sym w)
unwritable-is-unreadable Terminate n w = false-true (sym w)

-- the bytes that an accepted writing leaves at the buffer's start read back as the message
pub written-reads-back : (msg : LinkMsg) (buffer : List ℕ) → Ranged msg → writable msg ≡ true → length (bytes_of msg) ≤ length buffer
    → read_of (take (length (bytes_of msg)) (buffer_of msg buffer)) ≡ Ok msg
unfolding buffer_of
written-reads-back msg buffer r w h =
    simp (w, le-leb (length (bytes_of msg)) (length buffer) h, take_at (bytes_of msg) (drop (length (bytes_of msg)) buffer) (length (bytes_of msg)) refl)
    (reads-back msg r w)
