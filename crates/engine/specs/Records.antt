-- What a cell's record says. The records are words of the lent record space (document 02, [8]), one a cell. 0 is an empty cell; else a word is a
-- message's kind, its length times 2^8 and its count times 2^32. Assumes nothing.
use Rattle.std.specs.Prelude.{◌≡◌, ℕ, ◌+◌, ◌*◌, ◌/◌, ◌%◌, ◌^◌, ◌<◌, ◌≤◌, Bool, true, false, cond, ◌||◌, ◌==◌, refl, Some, None}
use Rattle.engine.specs.Held.{Held}
use Rattle.std.proofs.Common.{sym, ap, ◌∙◌, arith, eq-eqb, eqb-true}
use borrow.Table.Steps.{cases}
use Rattle.refusal.specs.Tests.{false-true}
use Rattle.msg.specs.declared.reliable.ReliableMsg.{ReliableMsg}
use Rattle.msg.specs.declared.reliable.ReliableMsg.TheVariants.{Data, Consumed, SendFinish, ReceiveClose, ReceiveFinish}
use Rattle.msg.specs.Reliable.{is_kind, kind_of, count_of, MSG_DATA, MSG_CONSUMED, MSG_SEND_FINISH, MSG_RECEIVE_CLOSE, MSG_RECEIVE_FINISH}
use Rattle.engine.specs.Sizes.{DATA_BYTES}

-- ---- what a cell holds

abbrev pub is_full : Held → Bool
is_full None = false
is_full (Some (msg, len)) = true

-- the data bytes
abbrev pub held_bytes : Held → ℕ
held_bytes None = 0
held_bytes (Some (msg, len)) = len

-- "Data and SendFinish among them become ready"
abbrev pub is_ready_kind : ReliableMsg → Bool
is_ready_kind msg = is_kind MSG_DATA msg || is_kind MSG_SEND_FINISH msg

-- .. and any other leaves its cell
abbrev pub kept_of : Held → Held
kept_of None = None
kept_of (Some (msg, len)) = cond (is_ready_kind msg) (Some (msg, len)) None

-- ---- its record

abbrev pub record_of : Held → ℕ
record_of None = 0
record_of (Some (msg, len)) = kind_of msg + 256 * len + 4294967296 * count_of msg

-- a kind that no cell holds says nothing
unfoldable pub held_as : (kind len count : ℕ) → Held
held_as kind len count =
    cond (kind == MSG_DATA) (Some (Data, len))
    (cond (kind == MSG_CONSUMED) (Some ((Consumed count), len))
    (cond (kind == MSG_SEND_FINISH) (Some (SendFinish, len))
    (cond (kind == MSG_RECEIVE_CLOSE) (Some (ReceiveClose, len))
    (cond (kind == MSG_RECEIVE_FINISH) (Some (ReceiveFinish, len))
    None))))

unfoldable pub held_of : ℕ → Held
unfolding held_as
held_of word = held_as (word % 256) (word / 256 % 16777216) (word / 4294967296)

-- a word that is the record of what it says: no other kind, and a count with a Consumed alone
unfoldable pub is_record : ℕ → Bool
unfolding held_of
is_record word = record_of (held_of word) == word

-- the word of a Data of at most DATA_BYTES bytes, by its parts
pub record DataRecord (word : ℕ) : Type 0 where
  pub kind : word % 256 ≡ MSG_DATA
  pub long : word ≤ 7 + 256 * DATA_BYTES

-- the record that a passed message leaves
unfoldable pub kept_record : ℕ → ℕ
unfolding held_of
kept_record word = cond (is_full (kept_of (held_of word))) word 0

-- ---- laws

-- a length has 24 bits of a record
abbrev pub RecordFits : Held → Type 0
RecordFits None = Unit
RecordFits (Some (msg, len)) = len < 2 ^ 24

pub held_none : held_of 0 ≡ None
unfolding held_of held_as
held_none = refl

-- what is written is read
held-as : (msg : ReliableMsg) (len : ℕ) → held_as (kind_of msg) len (count_of msg) ≡ Some (msg, len)
unfolding held_as
held-as Data len = refl
held-as (Consumed n) len = refl
held-as SendFinish len = refl
held-as ReceiveClose len = refl
held-as ReceiveFinish len = refl

kind-lt : (msg : ReliableMsg) → kind_of msg < 256
kind-lt Data = omega arith
kind-lt (Consumed n) = omega arith
kind-lt SendFinish = omega arith
kind-lt ReceiveClose = omega arith
kind-lt ReceiveFinish = omega arith

parts : (k len n : ℕ) → k < 256 → len < 2 ^ 24
    → ((k + 256 * len + 4294967296 * n) % 256 ≡ k) × ((k + 256 * len + 4294967296 * n) / 256 % 16777216 ≡ len) × ((k + 256 * len + 4294967296 * n) / 4294967296 ≡ n)
parts k len n small short =
    let w = k + 256 * len + 4294967296 * n in
    let above : w / 256 ≡ len + 16777216 * n = omega arith in
    let middle : (len + 16777216 * n) % 16777216 ≡ len = omega arith in
    (omega arith, ap (λ x. x % 16777216) above ∙ middle, omega arith)

pub held-record : (msg : ReliableMsg) (len : ℕ) → len < 2 ^ 24 → held_of (record_of (Some (msg, len))) ≡ Some (msg, len)
unfolding held_of
held-record msg len short =
    let p = parts (kind_of msg) len (count_of msg) (kind-lt msg) short in
    simp (p.0, p.1, p.2) (held-as msg len)

pub record_is : (msg : ReliableMsg) (len : ℕ) → len < 2 ^ 24 → is_record (record_of (Some (msg, len))) ≡ true
unfolding is_record
record_is msg len short = eq-eqb _ _ (ap record_of (held-record msg len short))

none : (h : Held) → is_full h ≡ false → h ≡ None
none None e = refl
none (Some (msg, len)) e = false-true (sym e)

kept_same : (h : Held) → is_full (kept_of h) ≡ true → kept_of h ≡ h
kept_same None e = false-true e
kept_same (Some (msg, len)) e = cases (is_ready_kind msg) (λ t. simp t) (λ t. false-true (simp t at e))

pub held_kept : (word : ℕ) → held_of (kept_record word) ≡ kept_of (held_of word)
unfolding kept_record
held_kept word =
    cases (is_full (kept_of (held_of word)))
    (λ t. simp t (sym (kept_same (held_of word) t)))
    (λ t. simp t (held_none ∙ sym (none (kept_of (held_of word)) t)))

-- what a word says fits a record
pub held_fits : (word : ℕ) → RecordFits (held_of word)
unfolding held_of held_as
held_fits word =
    let k = word % 256 in
    let short : word / 256 % 16777216 < 2 ^ 24 = omega arith in
    cases (k == MSG_DATA) (λ t. simp t short)
    (λ t. cases (k == MSG_CONSUMED) (λ u. simp (t, u) short)
    (λ u. cases (k == MSG_SEND_FINISH) (λ v. simp (t, u, v) short)
    (λ v. cases (k == MSG_RECEIVE_CLOSE) (λ w. simp (t, u, v, w) short)
    (λ w. cases (k == MSG_RECEIVE_FINISH) (λ x. simp (t, u, v, w, x) short) (λ x. simp (t, u, v, w, x) tt)))))

-- the length of a message's word
as_long : (kind len count : ℕ) → is_full (held_as kind len count) ≡ true → held_bytes (held_as kind len count) ≡ len
unfolding held_as
as_long kind len count e =
    cases (kind == MSG_DATA) (λ t. simp t)
    (λ t. cases (kind == MSG_CONSUMED) (λ u. simp (t, u))
    (λ u. cases (kind == MSG_SEND_FINISH) (λ v. simp (t, u, v))
    (λ v. cases (kind == MSG_RECEIVE_CLOSE) (λ w. simp (t, u, v, w))
    (λ w. cases (kind == MSG_RECEIVE_FINISH) (λ x. simp (t, u, v, w, x))
    (λ x. false-true (simp (t, u, v, w, x) at e))))))

pub full-long : (word : ℕ) → is_full (held_of word) ≡ true → held_bytes (held_of word) ≡ word / 256 % 16777216
unfolding held_of
full-long word e = as_long (word % 256) (word / 256 % 16777216) (word / 4294967296) e

-- .. and of any record: an empty one's is 0
pub record-long : (word : ℕ) → is_record word ≡ true → held_bytes (held_of word) ≡ word / 256 % 16777216
unfolding is_record
record-long word e =
    cases (is_full (held_of word)) (λ t. full-long word t)
    (λ t.
    let empty : held_of word ≡ None = none (held_of word) t in
    let zero : 0 ≡ word = sym (ap record_of empty) ∙ eqb-true (record_of (held_of word)) word e in
    ap held_bytes empty ∙ omega arith)
