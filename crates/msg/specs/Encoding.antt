-- Document 02, [11]: "with that, each message of our list has exactly one encoding, for every kind but the handshake pair". So
-- reading and writing are each other's inverse on what is accepted. Assumes nothing.
use Rattle.std.specs.Prelude.{◌≡◌, refl, Bool, true, false, cond, ◌&&◌, List, [], ◌∷◌, ◌++◌, ℕ, zero, suc, ◌+◌, ◌*◌, ◌%◌, ◌^◌, ◌≤◌, ◌<◌, eqb, leb, length, drop, get_or, Ok, Err, Result}
use Rattle.refusal.specs.declared.Refusal.{Refusal}
use Rattle.std.proofs.Common.{sym, ap, ap₂, subst, ◌∙◌, append-nil, arith, drop_of_length-le, drop-cons, eqb-true, le-leb}
use Rattle.refusal.specs.Tests.{false-true, split}
use Rattle.seq.specs.declared.Seq.{Seq}
use Rattle.seq.specs.Numbers.{seq_of}
use Rattle.msg.specs.declared.link_msg.RefusedReason.{RefusedReason}
use Rattle.msg.specs.declared.link_msg.RefusedReason.TheVariants.{Closed, NotListening, ConnectionRefused, LinkRefused}
use Rattle.msg.specs.declared.link_msg.LinkMsg.{LinkMsg}
use Rattle.msg.specs.declared.link_msg.LinkMsg.TheVariants.{Welcome, Connect, Accepted, Refused, Ping, Pong, Data, Ack, Consumed, SendFinish, ReceiveClose, ReceiveFinish, TestData, SetBlock, Goodbye, Terminate}
use Rattle.msg.specs.Messages.{be32, pattern, kind_of, reason_byte, block_byte, body_of, bytes_of, handshake}
use Rattle.msg.specs.Reading.{bad, number_at, exactly, opens_with, magic, reasons, blocks, read_handshake, read_alone, read_refused, read_numbered, read_consumed, read_test_data, read_set_block, read_none, readers, read_kind, read_of}
use Rattle.msg.specs.Writing.{writable, write_of, buffer_of}
use Rattle.msg.specs.RoundTrip.{Ranged, length-pattern, reads-back}

-- a run of bytes, as every lent run of u8 is
abbrev pub Bytes : List ℕ → Type 0
Bytes bytes = (k : ℕ) → get_or bytes k 0 < 256

-- What an answer says of the bytes that it was given for: a refusal is 20; a message's numbers are u32, and, if it is none of the
-- handshake pair, it may be written and its bytes are those that were read.
abbrev pub Answers : List ℕ → Result LinkMsg Refusal → Type 0
Answers bytes (Err e) = Err e ≡ bad
Answers bytes (Ok msg) = Bytes bytes → Ranged msg × (handshake msg ≡ false → (writable msg ≡ true) × (bytes_of msg ≡ bytes))

-- ---- four bytes and their number

pub number_small : (bytes : List ℕ) (at : ℕ) → Bytes bytes → number_at bytes at < 2 ^ 32
unfolding number_at
number_small bytes at small = omega (arith, small at, small (at + 1), small (at + 2), small (at + 3))

digits-back : (a b c d : ℕ) → a < 256 → b < 256 → c < 256 → d < 256 → be32 (((a * 256 + b) * 256 + c) * 256 + d) ≡ a ∷ b ∷ c ∷ d ∷ []
unfolding be32
digits-back a b c d ha hb hc hd = ap₂ (λ (x : ℕ) (l : List ℕ). x ∷ l) (omega arith) (ap₂ (λ (x : ℕ) (l : List ℕ). x ∷ l) (omega arith) (ap₂ (λ (x y : ℕ). x ∷ y ∷ []) (omega arith) (omega arith)))

-- a byte and what follows it
byte-apart : (bytes : List ℕ) (at next : ℕ) → at < length bytes → suc at ≡ next → drop at bytes ≡ get_or bytes at 0 ∷ drop next bytes
byte-apart bytes at next h e = drop-cons bytes at 0 h ∙ ap (λ k. get_or bytes at 0 ∷ drop k bytes) e

-- the four bytes at a place are those of the number there
number-back : (bytes : List ℕ) (at : ℕ) → Bytes bytes → at + 4 ≤ length bytes → be32 (number_at bytes at) ++ drop (at + 4) bytes ≡ drop at bytes
unfolding number_at
number-back bytes at small h =
    simp (
      digits-back _ _ _ _ (small at) (small (at + 1)) (small (at + 2)) (small (at + 3)),
      byte-apart bytes at (at + 1) (omega arith) (omega arith),
      byte-apart bytes (at + 1) (at + 2) (omega arith) (omega arith),
      byte-apart bytes (at + 2) (at + 3) (omega arith) (omega arith),
      byte-apart bytes (at + 3) (at + 4) (omega arith) (omega arith),
    )

last-number : (bytes : List ℕ) (at : ℕ) → Bytes bytes → length bytes ≡ at + 4 → be32 (number_at bytes at) ≡ drop at bytes
last-number bytes at small e =
    sym (append-nil (be32 (number_at bytes at)))
    ∙ ap (λ (l : List ℕ). be32 (number_at bytes at) ++ l) (sym (drop_of_length-le bytes {i = at + 4} (omega arith)))
    ∙ number-back bytes at small (omega arith)

-- a head as long as the bytes that it opens is all of them
opens-whole : (head bytes : List ℕ) → length head ≡ length bytes → opens_with head bytes ≡ true → head ≡ bytes
unfolding opens_with
opens-whole [] [] e o = refl
opens-whole [] (y ∷ bytes) e o = absurd (omega arith)
opens-whole (x ∷ head) [] e o = absurd (omega arith)
opens-whole (x ∷ head) (y ∷ bytes) e o =
    let both = split (eqb y x) (opens_with head bytes) o in
    ap₂ (λ (b : ℕ) (l : List ℕ). b ∷ l) (sym (eqb-true y x both.0)) (opens-whole head bytes (omega arith) both.1)

-- ---- what each kind reads

either : (bytes : List ℕ) (b : Bool) (x : Result LinkMsg Refusal) → (b ≡ true → Answers bytes x) → Answers bytes (cond b x bad)
either bytes true x f = f refl
either bytes false x f = refl

whole : (kind n : ℕ) (body : List ℕ) (x : Result LinkMsg Refusal) → (length body ≡ n → Answers (kind ∷ body) x) → Answers (kind ∷ body) (exactly n body x)
unfolding exactly
whole kind n body x f = either (kind ∷ body) (eqb (length body) n) x (λ e. f (eqb-true (length body) n e))

-- what holds of each element at its index, and of the default at any, holds at every index
abbrev Each : {A : Type 0} → (ℕ → A → Type 0) → List A → Type 0
Each P [] = Unit {0}
Each P (x ∷ l) = P 0 x × Each (λ k. P (suc k)) l

at_each : {A : Type 0} (P : ℕ → A → Type 0) (l : List A) (d : A) (i : ℕ) → Each P l → ((k : ℕ) → P k d) → P i (get_or l i d)
at_each P [] d i all last = last i
at_each P (x ∷ l) d zero all last = all.0
at_each P (x ∷ l) d (suc i) all last = at_each (λ k. P (suc k)) l d i all.1 (λ k. last (suc k))

-- how a kind's reader answers
abbrev Reads : ℕ → (List ℕ → Result LinkMsg Refusal) → Type 0
Reads kind reader = (body : List ℕ) → Answers (kind ∷ body) (reader body)

none : (kind : ℕ) → Reads kind read_none
none kind body = refl

handshakes : (kind : ℕ) (msg : LinkMsg) → Ranged msg → handshake msg ≡ true → Reads kind (read_handshake msg)
unfolding read_handshake
handshakes kind msg r h body =
    either (kind ∷ body) (opens_with magic body && eqb (get_or body 5 0) 4) (Ok msg) (λ e small. (r, λ other-kind. false-true (sym other-kind ∙ h)))

alone : (kind : ℕ) (msg : LinkMsg) → Ranged msg → writable msg ≡ true → bytes_of msg ≡ kind ∷ [] → Reads kind (read_alone msg)
unfolding read_alone
alone kind msg r w b body =
    whole kind 0 body (Ok msg)
    (λ e small. (r, λ other-kind. (w, b ∙ ap (λ (l : List ℕ). kind ∷ l) (sym (drop_of_length-le body {i = 0} (omega arith))))))

-- one byte, read by a table
one_byte : (kind : ℕ) (table : List (Result LinkMsg Refusal)) → Each (λ b. Answers (kind ∷ b ∷ [])) table → Reads kind (λ body. exactly 1 body (get_or table (get_or body 0 0) bad))
one_byte kind table all body =
    let b = get_or body 0 0 in
    whole kind 1 body (get_or table b bad)
    (λ e.
    let one : b ∷ [] ≡ body = sym (byte-apart body 0 1 (omega arith) refl ∙ ap (λ (l : List ℕ). b ∷ l) (drop_of_length-le body {i = 1} (omega arith))) in
    subst (λ (l : List ℕ). Answers (kind ∷ l) (get_or table b bad)) one (at_each (λ k. Answers (kind ∷ k ∷ [])) table bad b all (λ k. refl)))

refusals : Reads 4 read_refused
unfolding read_refused
refusals = one_byte 4 reasons (refl, (λ small. (tt, λ other-kind. (refl, refl)), (λ small. (tt, λ other-kind. (refl, refl)), (λ small. (tt, λ other-kind. (refl, refl)), (λ small. (tt, λ other-kind. (refl, refl)), tt)))))

blocked : Reads 14 read_set_block
unfolding read_set_block
blocked = one_byte 14 blocks (λ small. (tt, λ other-kind. (refl, refl)), (λ small. (tt, λ other-kind. (refl, refl)), tt))

numbered : (kind : ℕ) (msg : Seq → LinkMsg) → ((n : ℕ) → n < 2 ^ 32 → Ranged (msg (seq_of n)) × (writable (msg (seq_of n)) ≡ true) × (bytes_of (msg (seq_of n)) ≡ kind ∷ be32 n)) → Reads kind (read_numbered msg)
unfolding read_numbered
numbered kind msg says body =
    let n = number_at body 0 in
    whole kind 4 body (Ok (msg (seq_of n)))
    (λ e small.
    let bytes : Bytes body = λ k. small (suc k) in
    let said = says n (number_small body 0 bytes) in
    (said.0, λ other-kind. (said.1, said.2 ∙ ap (λ (l : List ℕ). kind ∷ l) (last-number body 0 bytes e))))

consumed : Reads 9 read_consumed
unfolding read_consumed
consumed body =
    whole 9 8 body (Ok (Consumed (seq_of (number_at body 0)) (number_at body 4)))
    (λ e small.
    let bytes : Bytes body = λ k. small (suc k) in
    let back = ap (λ (l : List ℕ). be32 (number_at body 0) ++ l) (last-number body 4 bytes e) ∙ number-back body 0 bytes (omega arith) in
    ((number_small body 0 bytes, number_small body 4 bytes), λ other-kind. (refl, ap (λ (l : List ℕ). 9 ∷ l) back)))

tested : Reads 13 read_test_data
unfolding read_test_data
tested body =
    either (13 ∷ body) (leb (length body) 1024) (cond (opens_with (pattern (length body)) body) (Ok (TestData (length body))) bad)
    (λ fits. either (13 ∷ body) (opens_with (pattern (length body)) body) (Ok (TestData (length body)))
    (λ on small. (tt, λ other-kind. (fits, ap (λ (l : List ℕ). 13 ∷ l) (opens-whole (pattern (length body)) body (length-pattern (length body)) on)))))

each-reader : Each Reads readers
each-reader =
    (none 0, (handshakes 1 Welcome tt refl, (handshakes 2 Connect tt refl, (alone 3 Accepted tt refl refl, (refusals, (alone 5 Ping tt refl refl, (alone 6 Pong tt refl refl, (numbered 7 Data (λ n h. (h, refl, refl)), (numbered 8 Ack (λ n h. (h, refl, refl)), (consumed, (numbered 10 SendFinish (λ n h. (h, refl, refl)), (numbered 11 ReceiveClose (λ n h. (h, refl, refl)), (numbered 12 ReceiveFinish (λ n h. (h, refl, refl)), (tested, (blocked, (alone 15 Goodbye tt refl refl, (alone 16 Terminate tt refl refl, tt)))))))))))))))))

pub answers : (bytes : List ℕ) → Answers bytes (read_of bytes)
unfolding read_of read_kind
answers [] = refl
answers (kind ∷ body) = at_each Reads readers read_none kind each-reader none body

-- ---- a message's bytes are a run of bytes

bytes-nil : Bytes []
bytes-nil k = omega arith

bytes-cons : (b : ℕ) (bytes : List ℕ) → b < 256 → Bytes bytes → Bytes (b ∷ bytes)
bytes-cons b bytes h small zero = h
bytes-cons b bytes h small (suc k) = small k

bytes-append : (l r : List ℕ) → Bytes l → Bytes r → Bytes (l ++ r)
bytes-append [] r sl sr = sr
bytes-append (b ∷ l) r sl sr = bytes-cons b (l ++ r) (sl 0) (bytes-append l r (λ k. sl (suc k)) sr)

bytes-number : (n : ℕ) → Bytes (be32 n)
unfolding be32
bytes-number n zero = omega arith
bytes-number n (suc zero) = omega arith
bytes-number n (suc (suc zero)) = omega arith
bytes-number n (suc (suc (suc zero))) = omega arith
bytes-number n (suc (suc (suc (suc k)))) = omega arith

bytes-pattern : (n : ℕ) → Bytes (pattern n)
unfolding pattern
bytes-pattern zero = bytes-nil
bytes-pattern (suc n) = bytes-append (pattern n) (n % 256 ∷ []) (bytes-pattern n) (bytes-cons (n % 256) [] (omega arith) bytes-nil)

bytes-reason : (reason : RefusedReason) → reason_byte reason < 256
bytes-reason Closed = omega arith
bytes-reason NotListening = omega arith
bytes-reason ConnectionRefused = omega arith
bytes-reason LinkRefused = omega arith

bytes-block : (blocked : Bool) → block_byte blocked < 256
bytes-block false = omega arith
bytes-block true = omega arith

-- a kind byte and a body
of-kind : (msg : LinkMsg) → kind_of msg < 256 → Bytes (body_of msg) → Bytes (bytes_of msg)
of-kind msg = bytes-cons (kind_of msg) (body_of msg)

bytes-of : (msg : LinkMsg) → Bytes (bytes_of msg)
bytes-of Welcome = of-kind Welcome (omega arith) bytes-nil
bytes-of Connect = of-kind Connect (omega arith) bytes-nil
bytes-of Accepted = of-kind Accepted (omega arith) bytes-nil
bytes-of (Refused reason) = of-kind (Refused reason) (omega arith) (bytes-cons (reason_byte reason) [] (bytes-reason reason) bytes-nil)
bytes-of Ping = of-kind Ping (omega arith) bytes-nil
bytes-of Pong = of-kind Pong (omega arith) bytes-nil
bytes-of (Data seq) = of-kind (Data seq) (omega arith) (bytes-number seq.0)
bytes-of (Ack received) = of-kind (Ack received) (omega arith) (bytes-number received.0)
bytes-of (Consumed seq consumed) = of-kind (Consumed seq consumed) (omega arith) (bytes-append (be32 seq.0) (be32 consumed) (bytes-number seq.0) (bytes-number consumed))
bytes-of (SendFinish seq) = of-kind (SendFinish seq) (omega arith) (bytes-number seq.0)
bytes-of (ReceiveClose seq) = of-kind (ReceiveClose seq) (omega arith) (bytes-number seq.0)
bytes-of (ReceiveFinish seq) = of-kind (ReceiveFinish seq) (omega arith) (bytes-number seq.0)
bytes-of (TestData size) = of-kind (TestData size) (omega arith) (bytes-pattern size)
bytes-of (SetBlock blocked) = of-kind (SetBlock blocked) (omega arith) (bytes-cons (block_byte blocked) [] (bytes-block blocked) bytes-nil)
bytes-of Goodbye = of-kind Goodbye (omega arith) bytes-nil
bytes-of Terminate = of-kind Terminate (omega arith) bytes-nil

-- ---- the statements

-- what is read may be written, and its bytes are those that were read
pub read-is-written : (msg : LinkMsg) (bytes : List ℕ) → Bytes bytes → handshake msg ≡ false → read_of bytes ≡ Ok msg → (writable msg ≡ true) × (bytes_of msg ≡ bytes)
read-is-written msg bytes small other-kind e = (subst (λ (r : Result LinkMsg Refusal). Answers bytes r) e (answers bytes) small).1 other-kind

-- "exactly one encoding": the message's bytes read as it, and no others do
pub record OneEncoding (msg : LinkMsg) : Type 0 where
  pub are-bytes : Bytes (bytes_of msg)
  pub read-so : read_of (bytes_of msg) ≡ Ok msg
  pub no-others : (bytes : List ℕ) → Bytes bytes → read_of bytes ≡ Ok msg → bytes ≡ bytes_of msg

-- "each message of our list has exactly one encoding, for every kind but the handshake pair" (a TestData above 1,024 is no message
-- of the list)
pub one-encoding : (msg : LinkMsg) → handshake msg ≡ false → Ranged msg → writable msg ≡ true → OneEncoding msg
one-encoding msg other-kind r w = record {
  are-bytes = bytes-of msg;
  read-so = reads-back msg r w;
  no-others = λ bytes small e. sym (read-is-written msg bytes small other-kind e).1;
}

-- two runs of bytes that read as the same message are equal
pub read_alike : (msg : LinkMsg) (bytes other : List ℕ) → Bytes bytes → Bytes other → handshake msg ≡ false
    → read_of bytes ≡ Ok msg → read_of other ≡ Ok msg → bytes ≡ other
read_alike msg bytes other small small-other other-kind e e-other = sym (read-is-written msg bytes small other-kind e).1 ∙ (read-is-written msg other small-other other-kind e-other).1

-- what is read, written again into a buffer that has room for it, gives the same bytes; `written-reads-back` of RoundTrip says the
-- same the other way about
pub read-writes-back : (msg : LinkMsg) (bytes buffer : List ℕ) → Bytes bytes → handshake msg ≡ false → read_of bytes ≡ Ok msg
    → length bytes ≤ length buffer
    → (write_of msg buffer ≡ Ok (length bytes)) × (buffer_of msg buffer ≡ bytes ++ drop (length bytes) buffer)
unfolding write_of buffer_of
read-writes-back msg bytes buffer small other-kind e room =
    let same = read-is-written msg bytes small other-kind e in
    let fits = le-leb (length (bytes_of msg)) (length buffer) (subst (λ (l : List ℕ). length l ≤ length buffer) (sym same.1) room) in
    subst (λ (l : List ℕ). (write_of msg buffer ≡ Ok (length l)) × (buffer_of msg buffer ≡ l ++ drop (length l) buffer)) same.1
    (simp (same.0, fits), simp (same.0, fits))
