-- Document 01: "Two conforming answers to one input are proved equal; exceptions go to a list in docs/ with a ground." The lines of the
-- public calls of the libraries that the programs are made of: the replay, which is a section of the paper, the recordings, the digits
-- and the tiles. A crate of its own, so that `laws`, and `ends` above it, need not wait for the replay. Assumes nothing.
use Rattle.std.specs.Prelude.{◌≡◌, refl, Bool, List, ℕ, length, Option, Result}
use Rattle.msg.specs.declared.link_msg.LinkMsg.{LinkMsg}
use Rattle.std.proofs.Common.{sym, ◌∙◌}
use contract.Lifetimes.{Lfts}
use Rattle.seq.specs.declared.Seq.{Seq}
use Rattle.engine.specs.declared.state.State.{State}
use Rattle.replaying.specs.declared.session.Answered.{Answered}
use Rattle.replaying.specs.declared.session.Session.{Session}
use Rattle.replaying.specs.declared.feeding.Fed.{Fed}
use Rattle.replaying.specs.declared.feeding.Closed.{Closed}
use Rattle.replaying.specs.Feeding.{carrying, feed_of, feed_store, feed_records, feed_line, feed_out}
use Rattle.refusal.specs.declared.Refusal.{Refusal}
use Rattle.comparing.specs.declared.comparison.Side.{Side}
use Rattle.laws.specs.Unique.{Unique, Place, lent, lent_mut}
use Rattle.text.proofs as text
use Rattle.tiles.proofs as tiles
use Rattle.recording.proofs as recording
use Rattle.replaying.proofs as replaying
use Rattle.comparing.proofs as comparing

-- ---- calls that are given values alone

sole : {K : Type 0} {A R E : K → Type 0} {d : (κs : K) → A κs → R κs} → Unique (λ κs a (r : R κs) (e : E κs). r ≡ d κs a)
sole = record { equal = λ κs a r r' e e' p q. p ∙ sym q }

-- crates/text/src/hex.rt
pub text-hex :
    Unique text.hex.hex_value.Reads.Learnt
    × Unique text.hex.hex_digit.Reads.Learnt
    × Unique text.hex.hex_byte.Reads.Learnt
text-hex = (sole, sole, sole)

-- crates/tiles/src/lib.rt
pub tiles-lib : Unique tiles.length.Reads.Learnt × Unique tiles.bytes_of.Reads.Learnt
tiles-lib = (sole, sole)

-- crates/comparing/src/listing.rt
pub comparing-listing :
    Unique comparing.listing.number_in.Reads.Learnt
    × Unique comparing.listing.kind_in.Reads.Learnt
    × Unique comparing.listing.difference_of.Reads.Learnt
comparing-listing = (sole, sole, sole)

-- ---- calls that are lent bytes: the same bytes, wherever they lie, give the same answer and are left the same

-- crates/text/src/hex.rt; `e.1.0` is the second parameter at exit, the buffer
pub read-hex : (κs κs' : Lfts 2) (run into : List ℕ) (i i' j j' : Place) (r r' : Option ℕ) (e : _) (e' : _)
    → text.hex.read_hex.Reads.Learnt κs (lent i run, (lent_mut j into, tt)) r e
    → text.hex.read_hex.Reads.Learnt κs' (lent i' run, (lent_mut j' into, tt)) r' e'
    → (r ≡ r') × (e.1.0.now ≡ e'.1.0.now)
read-hex κs κs' run into i i' j j' r r' e e' p q = (p.0 ∙ sym q.0, p.1 ∙ sym q.1)

-- crates/text/src/reading.rt
pub read-decimal : (κs κs' : Lfts 1) (word : List ℕ) (limit : ℕ) (i i' : Place) (r r' : Option ℕ) (e : _) (e' : _)
    → text.reading.read_decimal.Reads.Learnt κs (lent i word, (limit, tt)) r e
    → text.reading.read_decimal.Reads.Learnt κs' (lent i' word, (limit, tt)) r' e'
    → r ≡ r'
read-decimal κs κs' word limit i i' r r' e e' p q = p ∙ sym q

-- crates/text/src/writing.rt
pub put : (κs κs' : Lfts 2) (run out : List ℕ) (at : ℕ) (i i' j j' : Place) (r r' : ℕ) (e : _) (e' : _)
    → text.writing.put.Reads.Learnt κs (lent i run, (lent_mut j out, (at, tt))) r e
    → text.writing.put.Reads.Learnt κs' (lent i' run, (lent_mut j' out, (at, tt))) r' e'
    → (r ≡ r') × (e.1.0.now ≡ e'.1.0.now)
put κs κs' run out at i i' j j' r r' e e' p q = (p.0 ∙ sym q.0, p.1 ∙ sym q.1)

pub put-decimal : (κs κs' : Lfts 1) (n : ℕ) (out : List ℕ) (at : ℕ) (i i' : Place) (r r' : ℕ) (e : _) (e' : _)
    → text.writing.put_decimal.Reads.Learnt κs (n, (lent_mut i out, (at, tt))) r e
    → text.writing.put_decimal.Reads.Learnt κs' (n, (lent_mut i' out, (at, tt))) r' e'
    → (r ≡ r') × (e.1.0.now ≡ e'.1.0.now)
put-decimal κs κs' n out at i i' r r' e e' p q = (p.0 ∙ sym q.0, p.1 ∙ sym q.1)

pub put-hex : (κs κs' : Lfts 1) (b : ℕ) (out : List ℕ) (at : ℕ) (i i' : Place) (r r' : ℕ) (e : _) (e' : _)
    → text.writing.put_hex.Reads.Learnt κs (b, (lent_mut i out, (at, tt))) r e
    → text.writing.put_hex.Reads.Learnt κs' (b, (lent_mut i' out, (at, tt))) r' e'
    → (r ≡ r') × (e.1.0.now ≡ e'.1.0.now)
put-hex κs κs' b out at i i' r r' e e' p q = (p.0 ∙ sym q.0, p.1 ∙ sym q.1)

-- crates/tiles/src/lib.rt
pub is-tile : (κs κs' : Lfts 1) (shade n : ℕ) (bytes : List ℕ) (i i' : Place) (r r' : Bool) (e : _) (e' : _)
    → tiles.is_tile.Reads.Learnt κs (shade, (n, (lent i bytes, tt))) r e
    → tiles.is_tile.Reads.Learnt κs' (shade, (n, (lent i' bytes, tt))) r' e'
    → r ≡ r'
is-tile κs κs' shade n bytes i i' r r' e e' p q = p ∙ sym q

-- crates/recording/src/frames.rt
pub read-frame : (κs κs' : Lfts 1) (line : List ℕ) (i i' : Place) (r r' : Result LinkMsg Refusal) (e : _) (e' : _)
    → recording.frames.read_frame.Reads.Learnt κs (lent i line, tt) r e
    → recording.frames.read_frame.Reads.Learnt κs' (lent i' line, tt) r' e'
    → r ≡ r'
read-frame κs κs' line i i' r r' e e' p q = p ∙ sym q

-- crates/recording/src/payloads.rt; `e.1.0` is the second parameter at exit, the buffer
pub read-payload : (κs κs' : Lfts 2) (line into : List ℕ) (i i' j j' : Place) (r r' : Option ℕ) (e : _) (e' : _)
    → recording.payloads.read_payload.Reads.Learnt κs (lent i line, (lent_mut j into, tt)) r e
    → recording.payloads.read_payload.Reads.Learnt κs' (lent i' line, (lent_mut j' into, tt)) r' e'
    → (r ≡ r') × (e.1.0.now ≡ e'.1.0.now)
read-payload κs κs' line into i i' j j' r r' e e' p q = (p.0 ∙ sym q.0, p.1 ∙ sym q.1)

-- crates/recording/src/lines.rt
pub line-end : (κs κs' : Lfts 1) (input : List ℕ) (at : ℕ) (i i' : Place) (r r' : ℕ) (e : _) (e' : _)
    → recording.lines.line_end.Reads.Learnt κs (lent i input, (at, tt)) r e
    → recording.lines.line_end.Reads.Learnt κs' (lent i' input, (at, tt)) r' e'
    → r ≡ r'
line-end κs κs' input at i i' r r' e e' p q = p ∙ sym q

-- crates/replaying/src/session.rt; `e.0` is the first parameter at exit, the records
pub begin : (κs κs' : Lfts 1) (records : List ℕ) (i i' : Place) (r r' : Session) (e : _) (e' : _)
    → replaying.session.begin.Reads.Learnt κs (lent_mut i records, tt) r e
    → replaying.session.begin.Reads.Learnt κs' (lent_mut i' records, tt) r' e'
    → (r ≡ r') × (e.0.now ≡ e'.0.now)
begin κs κs' records i i' r r' e e' p q = (p.0 ∙ sym q.0, p.1 ∙ sym q.1)

-- crates/replaying/src/taking.rt; `e.1.1.0` is the third parameter at exit, the records
pub end_frame : (κs κs' : Lfts 1) (number : ℕ) (state : State) (records : List ℕ) (i i' : Place) (r r' : Answered) (e : _) (e' : _)
    → replaying.taking.end_frame.Reads.Learnt κs (number, (state, (lent_mut i records, tt))) r e
    → replaying.taking.end_frame.Reads.Learnt κs' (number, (state, (lent_mut i' records, tt))) r' e'
    → (r ≡ r') × (e.1.1.0.now ≡ e'.1.1.0.now)
end_frame κs κs' number state records i i' r r' e e' p q = (p.0 ∙ sym q.0, p.1 ∙ sym q.1)

-- crates/replaying/src/writing.rt; `e.1.1.0` is the third parameter at exit, the line's text
pub write-line : (κs κs' : Lfts 1) (number : ℕ) (next : Seq) (out : List ℕ) (i i' : Place) (r r' : _) (e : _) (e' : _)
    → replaying.writing.write_line.Reads.Learnt κs (number, (next, (lent_mut i out, tt))) r e
    → replaying.writing.write_line.Reads.Learnt κs' (number, (next, (lent_mut i' out, tt))) r' e'
    → e.1.1.0.now ≡ e'.1.1.0.now
write-line κs κs' number next out i i' r r' e e' p q = p ∙ sym q

-- crates/replaying/src/feeding.rt; `e.1.0` is the store at exit, `e.1.1.0` the records, `e.1.1.1.0` the carried line,
-- `e.1.1.1.1.1.0` the text
pub feed : (κs κs' : Lfts 5) (session : Session) (store records line piece out : List ℕ) (h h' i i' j j' k k' l l' : Place) (r r' : Fed) (e : _) (e' : _)
    → replaying.feeding.feed.Reads.Learnt κs (session, (lent_mut h store, (lent_mut i records, (lent_mut j line, (lent k piece, (lent_mut l out, tt)))))) r e
    → replaying.feeding.feed.Reads.Learnt κs' (session, (lent_mut h' store, (lent_mut i' records, (lent_mut j' line, (lent k' piece, (lent_mut l' out, tt)))))) r' e'
    → (r ≡ r') × (e.1.0.now ≡ e'.1.0.now) × (e.1.1.0.now ≡ e'.1.1.0.now) × (e.1.1.1.0.now ≡ e'.1.1.1.0.now)
    × (e.1.1.1.1.1.0.now ≡ e'.1.1.1.1.1.0.now)
feed κs κs' session store records line piece out h h' i i' j j' k k' l l' r r' e e' p q =
    (p.0 ∙ sym q.0, p.1.0 ∙ sym q.1.0, p.1.1.0 ∙ sym q.1.1.0, p.1.1.1.0 ∙ sym q.1.1.1.0, p.1.1.1.1 ∙ sym q.1.1.1.1)

-- to see what is learnt, on this call: the five `ensures` of the source, word by word
feed-learnt : (κs : Lfts 5) (session : Session) (store records line piece out : List ℕ) (h i j k l : Place) (r : Fed) (e : _)
    → replaying.feeding.feed.Reads.Learnt κs (session, (lent_mut h store, (lent_mut i records, (lent_mut j line, (lent k piece, (lent_mut l out, tt)))))) r e
    ≡ ((r ≡ feed_of (carrying session store records line) piece (length out))
    × ((e.1.0.now ≡ feed_store (carrying session store records line) piece (length out))
    × ((e.1.1.0.now ≡ feed_records (carrying session store records line) piece (length out))
    × ((e.1.1.1.0.now ≡ feed_line (carrying session store records line) piece (length out))
    × (e.1.1.1.1.1.0.now ≡ feed_out (carrying session store records line) piece out)))))
feed-learnt κs session store records line piece out h i j k l r e = refl

pub close : (κs κs' : Lfts 4) (session : Session) (store records line out : List ℕ) (h h' i i' j j' k k' : Place) (r r' : Closed) (e : _) (e' : _)
    → replaying.feeding.close.Reads.Learnt κs (session, (lent_mut h store, (lent_mut i records, (lent j line, (lent_mut k out, tt))))) r e
    → replaying.feeding.close.Reads.Learnt κs' (session, (lent_mut h' store, (lent_mut i' records, (lent j' line, (lent_mut k' out, tt))))) r' e'
    → (r ≡ r') × (e.1.0.now ≡ e'.1.0.now) × (e.1.1.0.now ≡ e'.1.1.0.now) × (e.1.1.1.1.0.now ≡ e'.1.1.1.1.0.now)
close κs κs' session store records line out h h' i i' j j' k k' r r' e e' p q =
    (p.0 ∙ sym q.0, p.1.0 ∙ sym q.1.0, p.1.1.0 ∙ sym q.1.1.0, p.1.1.1 ∙ sym q.1.1.1)

-- crates/comparing/src/comparison.rt; `e.1.1.0` is the list at exit
pub compare : (κs κs' : Lfts 3) (first second list : List ℕ) (i i' j j' k k' : Place) (r r' : Result (ℕ × ℕ × ℕ) (Refusal × Side × ℕ)) (e : _) (e' : _)
    → comparing.comparison.compare.Reads.Learnt κs (lent i first, (lent j second, (lent_mut k list, tt))) r e
    → comparing.comparison.compare.Reads.Learnt κs' (lent i' first, (lent j' second, (lent_mut k' list, tt))) r' e'
    → (r ≡ r') × (e.1.1.0.now ≡ e'.1.1.0.now)
compare κs κs' first second list i i' j j' k k' r r' e e' p q = (p.0 ∙ sym q.0, p.1.1 ∙ sym q.1.1)

-- crates/comparing/src/writing.rt
pub write-difference : (κs κs' : Lfts 1) (word : ℕ) (out : List ℕ) (i i' : Place) (r r' : ℕ) (e : _) (e' : _)
    → comparing.writing.write_difference.Reads.Learnt κs (word, (lent_mut i out, tt)) r e
    → comparing.writing.write_difference.Reads.Learnt κs' (word, (lent_mut i' out, tt)) r' e'
    → (r ≡ r') × (e.1.0.now ≡ e'.1.0.now)
write-difference κs κs' word out i i' r r' e e' p q = (p.0 ∙ sym q.0, p.1 ∙ sym q.1)

pub write-refused : (κs κs' : Lfts 1) (refusal : Refusal) (side : Side) (line : ℕ) (out : List ℕ) (i i' : Place) (r r' : ℕ) (e : _) (e' : _)
    → comparing.writing.write_refused.Reads.Learnt κs (refusal, (side, (line, (lent_mut i out, tt)))) r e
    → comparing.writing.write_refused.Reads.Learnt κs' (refusal, (side, (line, (lent_mut i' out, tt)))) r' e'
    → (r ≡ r') × (e.1.1.1.0.now ≡ e'.1.1.1.0.now)
write-refused κs κs' refusal side line out i i' r r' e e' p q = (p.0 ∙ sym q.0, p.1 ∙ sym q.1)

pub count-kind : (κs κs' : Lfts 1) (list : List ℕ) (n kind : ℕ) (i i' : Place) (r r' : ℕ) (e : _) (e' : _)
    → comparing.writing.count_kind.Reads.Learnt κs (lent i list, (n, (kind, tt))) r e
    → comparing.writing.count_kind.Reads.Learnt κs' (lent i' list, (n, (kind, tt))) r' e'
    → r ≡ r'
count-kind κs κs' list n kind i i' r r' e e' p q = p ∙ sym q

pub write-summary : (κs κs' : Lfts 2) (list : List ℕ) (n first second : ℕ) (out : List ℕ) (i i' j j' : Place) (r r' : ℕ) (e : _) (e' : _)
    → comparing.writing.write_summary.Reads.Learnt κs (lent i list, (n, (first, (second, (lent_mut j out, tt))))) r e
    → comparing.writing.write_summary.Reads.Learnt κs' (lent i' list, (n, (first, (second, (lent_mut j' out, tt))))) r' e'
    → (r ≡ r') × (e.1.1.1.1.0.now ≡ e'.1.1.1.1.0.now)
write-summary κs κs' list n first second out i i' j j' r r' e e' p q = (p.0 ∙ sym q.0, p.1 ∙ sym q.1)
