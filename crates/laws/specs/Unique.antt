-- Document 01: "Two conforming answers to one input are proved equal; exceptions go to a list in docs/ with a ground." Every public
-- call of every library crate has its line here under its path; docs/EXCEPTIONS.md has the exceptions, and .ci/unique holds both
-- to the sources. `Reads.Learnt` of a call is its promise: what its `ensures` say of its arguments, its answer (with the next state
-- in it) and what was lent to it at exit. The checker makes it of the source, so that no copy here can differ. Assumes nothing.
use Rattle.std.specs.Prelude.{length, ◌≡◌, refl, List, ℕ, ◌<◌, ◌≤◌, ◌⊎◌, Bool, ◌&&◌, ◌||◌, Result, Ok, Err}
use Rattle.refusal.specs.declared.Refusal.{Refusal}
use Rattle.engine.specs.declared.slowness.SlowLinks.{SlowLinks}
use Rattle.engine.specs.Held.{HandOut}
use Rattle.std.proofs.Common.{sym, ap, ◌∙◌, arith}
use Rattle.std.specs.Borrow.{GName, Bor, MutBor}
use contract.Lifetimes.{Lfts}
use Rattle.seq.specs.declared.Seq.{Seq}
use Rattle.msg.specs.declared.link_msg.LinkMsg.{LinkMsg}
use Rattle.msg.specs.declared.link_msg.RefusedReason.{RefusedReason}
use Rattle.msg.specs.declared.link_msg.RefusedReason.TheVariants.{Closed, NotListening, ConnectionRefused, LinkRefused}
use Rattle.msg.specs.Messages.{reason_byte}
use Rattle.msg.specs.Reasons.{Decodes}
use Rattle.msg.specs.declared.reliable.ReliableMsg.{ReliableMsg}
use Rattle.link.specs.declared.row.LinkRow.{LinkRow}
use Rattle.engine.specs.declared.state.State.{State}
use Rattle.engine.specs.declared.answer.Changed.{Changed}
use Rattle.engine.specs.declared.sending.SendResult.{SendResult}
use Rattle.engine.specs.declared.handing_out.TakeResult.{TakeResult}
use Rattle.engine.specs.HandingOut.{shown_at}
use Rattle.engine.specs.Slowness.{slow_slots, slow_verdict, slow_told, slow_links_of}
use Rattle.refusal.specs.Answers.{told_by}
use Rattle.refusal.specs.Verdicts.{Verdict, gate_by}
use Rattle.refusal.proofs as refusal
use Rattle.seq.proofs as seq
use Rattle.msg.proofs as msg
use Rattle.link.proofs as link
use Rattle.engine.proofs as engine

-- ---- calls that are given values alone

-- two answers r and r' that meet the promise P on the same arguments a are equal; κs are lifetimes, e and e' the parameters at exit
pub record Unique {K : Type 0} {A R E : K → Type 0} (P : (κs : K) → A κs → R κs → E κs → Type 0) : Type 0 where
  pub equal : (κs : K) (a : A κs) (r r' : R κs) (e e' : E κs) → P κs a r e → P κs a r' e' → r ≡ r'

-- a promise that is an equation for the answer has one: this proves every line below
sole : {K : Type 0} {A R E : K → Type 0} {d : (κs : K) → A κs → R κs} → Unique (λ κs a (r : R κs) (e : E κs). r ≡ d κs a)
sole = record { equal = λ κs a r r' e e' p q. p ∙ sym q }

-- .. and so has one that says besides what the answer tells
first : {K : Type 0} {A R E : K → Type 0} {d : (κs : K) → A κs → R κs} {T : (κs : K) → A κs → R κs → E κs → Type 0}
    → Unique (λ κs a (r : R κs) (e : E κs). (r ≡ d κs a) × T κs a r e)
first = record { equal = λ κs a r r' e e' p q. p.0 ∙ sym q.0 }

-- crates/refusal/src/lib.rt
pub refusal-lib : Unique refusal.Refusal.number.Reads.Learnt
refusal-lib = sole

-- crates/refusal/src/verdict.rt
-- The three lines behind the first say it of what `gate`, `both` and `either` promised, which the code has `?`, `&&` and `||` for.
pub refusal-verdict :
    Unique refusal.verdict.refuse_unless.Reads.Learnt
    × ((ok : Bool) (e : Refusal) (rest r r' : Verdict) → r ≡ gate_by ok e rest → r' ≡ gate_by ok e rest → r ≡ r')
    × ((a b r r' : Bool) → r ≡ (a && b) → r' ≡ (a && b) → r ≡ r')
    × ((a b r r' : Bool) → r ≡ (a || b) → r' ≡ (a || b) → r ≡ r')
refusal-verdict = (sole, (λ ok e rest r r' p q. p ∙ sym q), (λ a b r r' p q. p ∙ sym q), (λ a b r r' p q. p ∙ sym q))

-- crates/seq/src/lib.rt
pub seq-lib :
    Unique seq.Seq.add.Reads.Learnt
    × Unique seq.Seq.sub.Reads.Learnt
    × Unique seq.SeqPartialEq.eq.Reads.Learnt
    × Unique seq.Seq.distance.Reads.Learnt
    × Unique seq.Seq.is_near.Reads.Learnt
    × Unique seq.Seq.is_before.Reads.Learnt
    × Unique seq.Seq.past.Reads.Learnt
seq-lib = (sole, sole, sole, sole, sole, sole, sole)

-- crates/msg/src/link_msg.rt: the conversion of a byte. It promises no equation: a byte is that of one reason, or of none
reason-small : (a : RefusedReason) → (1 ≤ reason_byte a) × (reason_byte a ≤ 4)
reason-small Closed = omega arith
reason-small NotListening = omega arith
reason-small ConnectionRefused = omega arith
reason-small LinkRefused = omega arith

same-reason : (a b : RefusedReason) → reason_byte a ≡ reason_byte b → a ≡ b
same-reason Closed Closed e = refl
same-reason Closed NotListening e = absurd (omega arith)
same-reason Closed ConnectionRefused e = absurd (omega arith)
same-reason Closed LinkRefused e = absurd (omega arith)
same-reason NotListening Closed e = absurd (omega arith)
same-reason NotListening NotListening e = refl
same-reason NotListening ConnectionRefused e = absurd (omega arith)
same-reason NotListening LinkRefused e = absurd (omega arith)
same-reason ConnectionRefused Closed e = absurd (omega arith)
same-reason ConnectionRefused NotListening e = absurd (omega arith)
same-reason ConnectionRefused ConnectionRefused e = refl
same-reason ConnectionRefused LinkRefused e = absurd (omega arith)
same-reason LinkRefused Closed e = absurd (omega arith)
same-reason LinkRefused NotListening e = absurd (omega arith)
same-reason LinkRefused ConnectionRefused e = absurd (omega arith)
same-reason LinkRefused LinkRefused e = refl

no-reason : (byte : ℕ) (a : RefusedReason) → reason_byte a ≡ byte → ((byte ≡ 0) ⊎ (4 < byte)) → ⊥
no-reason byte a e none = let small = reason-small a in omega (arith, small, none)

one-decoded : (byte : ℕ) (r r' : Result RefusedReason Refusal) → Decodes byte r → Decodes byte r' → r ≡ r'
one-decoded byte (Ok a) (Ok b) p q = ap Ok (same-reason a b (p ∙ sym q))
one-decoded byte (Ok a) (Err e) p q = absurd (no-reason byte a p q.1)
one-decoded byte (Err e) (Ok b) p q = absurd (no-reason byte b q p.1)
one-decoded byte (Err e) (Err e') p q = ap Err (p.0 ∙ sym q.0)

pub msg-reason : Unique msg.link_msg.RefusedReasonTryFromU8.try_from.Reads.Learnt
msg-reason = record { equal = λ κs a r r' e e' p q. one-decoded _ r r' p q }

-- crates/msg/src/reliable.rt
pub msg-reliable :
    Unique msg.reliable.ReliableMsg.to_link_msg.Reads.Learnt
    × Unique msg.reliable.ReliableMsg.from_link_msg.Reads.Learnt
    × Unique msg.reliable.ReliableMsg.kind.Reads.Learnt
    × Unique msg.reliable.ReliableMsg.count.Reads.Learnt
msg-reliable = (sole, sole, sole, sole)

-- crates/link/src/acks.rt
pub link-acks :
    Unique link.row.LinkRow.queue_ack.Reads.Learnt
    × Unique link.row.LinkRow.oldest_ack.Reads.Learnt
    × Unique link.row.LinkRow.take_ack.Reads.Learnt
link-acks = (sole, sole, sole)

-- crates/link/src/limit.rt
pub link-limit :
    Unique link.row.LinkRow.mark.Reads.Learnt
    × Unique link.row.LinkRow.mark_acked.Reads.Learnt
    × Unique link.row.LinkRow.mark_resent.Reads.Learnt
link-limit = (sole, sole, sole)

-- crates/link/src/roundtrip.rt
pub link-roundtrip :
    Unique link.roundtrip.trip_after.Reads.Learnt
    × Unique link.row.LinkRow.ping.Reads.Learnt
    × Unique link.row.LinkRow.pong.Reads.Learnt
    × Unique link.row.LinkRow.trip.Reads.Learnt
link-roundtrip = (sole, sole, sole, sole)

-- crates/link/src/row.rt
pub link_row :
    Unique link.row.LinkRow.empty.Reads.Learnt
    × Unique link.row.LinkRow.fresh.Reads.Learnt
    × Unique link.row.LinkRow.confirm.Reads.Learnt
    × Unique link.row.LinkRow.unconfirm.Reads.Learnt
    × Unique link.row.LinkRow.block.Reads.Learnt
    × Unique link.row.LinkRow.with_unacked.Reads.Learnt
link_row = (sole, sole, sole, sole, sole, sole)

-- crates/link/src/sizes.rt
pub link-sizes :
    Unique link.sizes.max_ping_within.Reads.Learnt
    × Unique link.row.LinkRow.is_within.Reads.Learnt
link-sizes = (sole, sole)

-- crates/link/src/slow.rt
pub link-slow :
    Unique link.row.LinkRow.is_confirmed.Reads.Learnt
    × Unique link.row.LinkRow.is_above_max_ping.Reads.Learnt
    × Unique link.row.LinkRow.is_slow.Reads.Learnt
link-slow = (sole, sole, sole)

-- crates/link/src/timeout.rt
pub link-timeout :
    Unique link.timeout.AckTimeout.is_within.Reads.Learnt
    × Unique link.timeout.AckTimeout.duration.Reads.Learnt
link-timeout = (sole, sole)

-- crates/engine/src/sound.rt
pub engine-sound : Unique engine.sound.is_sound.Reads.Learnt
engine-sound = sole

-- crates/engine/src/records.rt
pub engine-records : Unique engine.records.held_of.Reads.Learnt
engine-records = sole

-- crates/engine/src/rows.rt
pub engine-rows : Unique engine.rows.row_of.Reads.Learnt
engine-rows = sole

-- crates/engine/src/table.rt
pub engine-table : Unique engine.table.packet_of.Reads.Learnt
engine-table = sole

-- crates/engine/src/links.rt
pub engine-links :
    Unique engine.links.add.Reads.Learnt
    × Unique engine.links.confirm.Reads.Learnt
    × Unique engine.links.block.Reads.Learnt
    × Unique engine.links.mark.Reads.Learnt
    × Unique engine.links.ping.Reads.Learnt
    × Unique engine.links.pong.Reads.Learnt
engine-links = (first, first, first, first, first, first)

-- crates/engine/src/unconfirming.rt
pub engine-unconfirming :
    Unique engine.unconfirming.unconfirm.Reads.Learnt
    × Unique engine.unconfirming.remove.Reads.Learnt
engine-unconfirming = (first, first)

-- crates/engine/src/flushing.rt
pub engine-flushing : Unique engine.flushing.flush.Reads.Learnt
engine-flushing = first

-- crates/engine/src/resending.rt
pub engine-resending : Unique engine.resending.resend.Reads.Learnt
engine-resending = first

-- crates/engine/src/acking.rt
pub engine-acking : Unique engine.acking.ack.Reads.Learnt
engine-acking = first

-- crates/engine/src/handing_out.rt
pub engine-handing-out :
    Unique engine.handing_out.take_ack.Reads.Learnt
    × Unique engine.handing_out.is_consume_ack_required.Reads.Learnt
engine-handing-out = (first, first)

-- crates/engine/src/closing.rt
pub engine-closing : Unique engine.closing.close_reader.Reads.Learnt
engine-closing = first

-- crates/engine/src/deadlines.rt
pub engine-deadlines : Unique engine.deadlines.earliest_confirm_timeout.Reads.Learnt
engine-deadlines = first

-- ---- calls that are lent bytes: the same bytes, wherever they lie, give the same answer and are left the same

pub record Place : Type 0 where
  pub ptr : ℕ × ℕ
  pub name : GName

abbrev pub lent : {X : Type 0} → Place → X → Bor X
lent i x = record { ref_ptr = i.ptr; now = x }

-- .. and those that a call may change
abbrev pub lent_mut : {X : Type 0} → Place → X → MutBor X
lent_mut i x = record { ref_ptr = i.ptr; ghost_name = i.name; now = x }

-- crates/msg/src/reading.rt
pub msg-read : (κs κs' : Lfts 1) (bytes : List ℕ) (i i' : Place) (r r' : Result LinkMsg Refusal) (e : _) (e' : _)
    → msg.reading.read.Reads.Learnt κs (lent i bytes, tt) r e
    → msg.reading.read.Reads.Learnt κs' (lent i' bytes, tt) r' e'
    → r ≡ r'
msg-read κs κs' bytes i i' r r' e e' p q = p.0 ∙ sym q.0

-- crates/msg/src/writing.rt; `e.1.0` is the second parameter at exit, the buffer
pub msg-write : (κs κs' : Lfts 1) (m : LinkMsg) (buffer : List ℕ) (i i' : Place) (r r' : Result ℕ Refusal) (e : _) (e' : _)
    → msg.writing.write.Reads.Learnt κs (m, (lent_mut i buffer, tt)) r e
    → msg.writing.write.Reads.Learnt κs' (m, (lent_mut i' buffer, tt)) r' e'
    → (r ≡ r') × (e.1.0.now ≡ e'.1.0.now)
msg-write κs κs' m buffer i i' r r' e e' p q = (p.0 ∙ sym q.0, p.1.1 ∙ sym q.1.1)

-- crates/engine/src/sending.rt
pub send : (κs κs' : Lfts 2) (s : State) (store : List ℕ) (slot time : ℕ) (msg : ReliableMsg) (payload : List ℕ) (i i' j j' : Place) (r r' : SendResult) (e : _) (e' : _)
    → engine.sending.send.Reads.Learnt κs (s, (lent_mut i store, (slot, (time, (msg, (lent j payload, tt)))))) r e
    → engine.sending.send.Reads.Learnt κs' (s, (lent_mut i' store, (slot, (time, (msg, (lent j' payload, tt)))))) r' e'
    → (r ≡ r') × (e.1.0.now ≡ e'.1.0.now)
send κs κs' s store slot time msg payload i i' j j' r r' e e' p q = (p.0 ∙ sym q.0, p.1.1 ∙ sym q.1.1)

-- crates/engine/src/starting.rt
pub fresh : (κs κs' : Lfts 1) (start : Seq) (buffer cells : ℕ) (records : List ℕ) (i i' : Place) (r r' : Changed) (e : _) (e' : _)
    → engine.starting.fresh.Reads.Learnt κs (start, (buffer, (cells, (lent_mut i records, tt)))) r e
    → engine.starting.fresh.Reads.Learnt κs' (start, (buffer, (cells, (lent_mut i' records, tt)))) r' e'
    → (r ≡ r') × (e.1.1.1.0.now ≡ e'.1.1.1.0.now)
fresh κs κs' start buffer cells records i i' r r' e e' p q = (p.0 ∙ sym q.0, p.1.1.1 ∙ sym q.1.1.1)

-- crates/engine/src/sound.rt
pub sound-with : (κs κs' : Lfts 1) (s : State) (records : List ℕ) (i i' : Place) (r r' : Bool) (e : _) (e' : _)
    → engine.sound.is_sound_with.Reads.Learnt κs (s, (lent i records, tt)) r e
    → engine.sound.is_sound_with.Reads.Learnt κs' (s, (lent i' records, tt)) r' e'
    → r ≡ r'
sound-with κs κs' s records i i' r r' e e' p q = p ∙ sym q

-- crates/engine/src/receiving.rt; `e.1.0` is the store, `e.1.1.0` the record space
pub receive : (κs κs' : Lfts 3) (s : State) (store records : List ℕ) (slot : ℕ) (msg : ReliableMsg) (seq : Seq) (payload : List ℕ) (i i' j j' k k' : Place) (r r' : Changed) (e : _) (e' : _)
    → engine.receiving.receive.Reads.Learnt κs (s, (lent_mut i store, (lent_mut j records, (slot, (msg, (seq, (lent k payload, tt))))))) r e
    → engine.receiving.receive.Reads.Learnt κs' (s, (lent_mut i' store, (lent_mut j' records, (slot, (msg, (seq, (lent k' payload, tt))))))) r' e'
    → (r ≡ r') × (e.1.0.now ≡ e'.1.0.now) × (e.1.1.0.now ≡ e'.1.1.0.now)
receive κs κs' s store records slot msg seq payload i i' j j' k k' r r' e e' p q = (p.0 ∙ sym q.0, p.1.1.0 ∙ sym q.1.1.0, p.1.1.1 ∙ sym q.1.1.1)

-- crates/engine/src/handing_out.rt
pub showing : (κs κs' : Lfts 2) (s : State) (store records : List ℕ) (i i' j j' : Place) (r r' : HandOut) (e : _) (e' : _)
    → engine.handing_out.showing.Reads.Learnt κs (s, (lent i store, (lent j records, tt))) r e
    → engine.handing_out.showing.Reads.Learnt κs' (s, (lent i' store, (lent j' records, tt))) r' e'
    → r ≡ r'
showing κs κs' s store records i i' j j' r r' e e' p q = p.0 ∙ sym q.0

-- .. and the part that is shown lies at the same place of the store
pub show : (κs κs' : Lfts 2) (s : State) (store records : List ℕ) (i i' j j' : Place) (r r' : Bor (List ℕ)) (e : _) (e' : _)
    → engine.handing_out.show.Reads.Learnt κs (s, (lent i store, (lent j records, tt))) r e
    → engine.handing_out.show.Reads.Learnt κs' (s, (lent i' store, (lent j' records, tt))) r' e'
    → (r.now ≡ r'.now) × (i.ptr ≡ i'.ptr → r.ref_ptr ≡ r'.ref_ptr)
show κs κs' s store records i i' j j' r r' e e' p q = (p.0 ∙ sym q.0, λ same. p.1 ∙ ap (shown_at s (length store) records) same ∙ sym q.1)

pub take : (κs κs' : Lfts 1) (s : State) (records : List ℕ) (i i' : Place) (r r' : TakeResult) (e : _) (e' : _)
    → engine.handing_out.take.Reads.Learnt κs (s, (lent_mut i records, tt)) r e
    → engine.handing_out.take.Reads.Learnt κs' (s, (lent_mut i' records, tt)) r' e'
    → (r ≡ r') × (e.1.0.now ≡ e'.1.0.now)
take κs κs' s records i i' r r' e e' p q = (p.0 ∙ sym q.0, p.1.1 ∙ sym q.1.1)

-- crates/engine/src/slowness.rt; what it promises, in one clause, is the definition and what that tells
pub slow-says : (κs : Lfts 1) (rows : List LinkRow) (i : Place) (r : Result SlowLinks Refusal) (e : _)
    → engine.slowness.slow.Reads.Learnt κs (lent i rows, tt) r e
    ≡ ((r ≡ slow_links_of rows) × (slow_told r ≡ told_by (slow_verdict rows) (slow_slots rows)))
slow-says κs rows i r e = refl

pub slow : (rows : List LinkRow) (r r' : Result SlowLinks Refusal) → r ≡ slow_links_of rows → r' ≡ slow_links_of rows → r ≡ r'
slow rows r r' p q = p ∙ sym q
