-- Request [2] of document 02, "readable in pieces, cut anywhere, within a digit pair too. Lines, answers and the state at the end equal
-- those of the whole input, for every cutting; a piece may be empty": what a host does that is handed its input in pieces, by the
-- definitions that `feed` and `close` promise, and that what it writes is the text of the whole input. Assumes nothing.
use Rattle.std.specs.Prelude.{◌≡◌, refl, List, [], ◌∷◌, ◌++◌, ℕ, zero, suc, ◌+◌, ◌-◌, ◌≤◌, ◌<◌, eqb, leb, length, get_or, take, drop}
use Rattle.std.proofs.Common.{sym, ◌∙◌, ap, append-nil, arith, length-append, length-drop, take-append-drop, take-add, take_at, eqb-true, le-leb, leb-true, leb-false}
use Rattle.std.proofs.lemmas.Bool.{eqb-false}
use borrow.Table.Steps.{cases}
use Rattle.text.specs.Put.{joined}
use Rattle.replaying.specs.declared.session.Session.{Session}
use Rattle.replaying.specs.Session.{begun}
use Rattle.recording.specs.Frames.{MAX_LINE}
use Rattle.replaying.specs.Writing.{LINE_TEXT}
use Rattle.replaying.specs.Feeding.{Told, Carrying, carrying, begun_with, carrying_with, told_of, session_of, said_by, byte_fed, fed_by, used_of, fed_in, feed_of, feed_store, feed_records, feed_line, feed_out, last_line, last_of, close_store, close_records, closed, close_of, close_out, fed-append, carry-byte}
use Rattle.replaying.specs.FeedLine.{behind, behind-fed, used-none, used-within}
use Rattle.replaying.specs.Whole.{whole_of, output_of, fed-is-whole}

-- what a host holds: the session, what it lends, and the text that it has written out; a call is given it without the text
abbrev pub lent : Carrying → Carrying
lent h = carrying (session_of h) h.told.store h.told.records h.line

-- one call, with some bytes and a buffer: what it wrote to the buffer's start is written out
abbrev pub fed_once : Carrying → List ℕ → List ℕ → Carrying
fed_once h piece out = record {
  told = record {
    replay = (feed_of (lent h) piece (length out)).session.replay;
    store = feed_store (lent h) piece (length out);
    records = feed_records (lent h) piece (length out);
    text = h.told.text ++ take (feed_of (lent h) piece (length out)).wrote (feed_out (lent h) piece out);
  };
  line = feed_line (lent h) piece (length out);
  count = (feed_of (lent h) piece (length out)).session.count;
}

abbrev pub used_once : Carrying → List ℕ → List ℕ → ℕ
used_once h piece out = (feed_of (lent h) piece (length out)).used

-- calls, one after another, each with its buffer: what a call doesn't use goes in again
unfoldable pub fed_times : ℕ → (ℕ → List ℕ) → Carrying → List ℕ → Carrying
unfolding feed_of fed_in feed_out
fed_times zero outs h piece = h
fed_times (suc n) outs h piece = fed_times n (λ k. outs (suc k)) (fed_once h piece (outs 0)) (drop (used_once h piece (outs 0)) piece)

-- pieces in their order, with as many calls as a piece has bytes: a call on nothing changes nothing
unfoldable pub fed_pieces : (ℕ → ℕ → List ℕ) → Carrying → List (List ℕ) → Carrying
unfolding fed_times
fed_pieces outs h [] = h
fed_pieces outs h (piece ∷ rest) = fed_pieces (λ i. outs (suc i)) (fed_times (length piece) (outs 0) h piece) rest

-- the closing call
abbrev pub closed_once : Carrying → List ℕ → Told
closed_once h out = record {
  replay = (close_of (lent h)).session.replay;
  store = close_store (lent h);
  records = close_records (lent h);
  text = h.told.text ++ take (close_of (lent h)).wrote (close_out (lent h) out);
}

-- ---- one call

lent-behind : (h : Carrying) → behind h.told.text (lent h) ≡ h
lent-behind h = ap (λ t. carrying_with (told_of h.told.replay h.told.store h.told.records t) h.line h.count) (append-nil h.told.text)

-- it leads to where its bytes lead, as far as they are used, and writes their text
pub once-is-fed : (h : Carrying) (piece out : List ℕ) → fed_once h piece out ≡ fed_by h (take (used_once h piece out) piece)
unfolding feed_of feed_out fed_in
once-is-fed h piece out =
    let u = used_of (lent h) piece (length out) in
    let f = fed_by (lent h) (take u piece) in
    ap (λ t. carrying_with (told_of f.told.replay f.told.store f.told.records (h.told.text ++ t)) f.line f.count) (take_at f.told.text (drop (length f.told.text) out) (length f.told.text) refl)
    ∙ sym (behind-fed h.told.text (lent h) (take u piece))
    ∙ ap (λ c. fed_by c (take u piece)) (lent-behind h)

-- "a piece may be empty": it changes nothing
pub empty-piece : (h : Carrying) (out : List ℕ) → fed_once h [] out ≡ h
unfolding feed_of used_of fed_by
empty-piece h out = once-is-fed h [] out

-- where a line fits, a call uses some of what it is given
pub used-some : (h : Carrying) (piece out : List ℕ) → LINE_TEXT ≤ length out → 0 < length piece → 0 < used_once h piece out
unfolding feed_of used_of
used-some h [] out room some = some
used-some h (b ∷ rest) out room some = simp (le-leb LINE_TEXT (length out) room) (omega arith)

-- and where it stops before the end, it is at a line's end
stopped : (c : Carrying) (piece : List ℕ) (room : ℕ) → length c.told.text + LINE_TEXT ≤ room → used_of c piece room < length piece
    → (0 < used_of c piece room) × (get_or piece (used_of c piece room - 1) 0 ≡ 10)
unfolding used_of byte_fed
stopped c [] room h less = absurd (omega arith)
stopped c (b ∷ rest) room h less =
    let t = le-leb (length c.told.text + LINE_TEXT) room h in
    let next = byte_fed c b in
    cases (leb (length next.told.text + LINE_TEXT) room)
    (λ y.
    let more = stopped next rest room (leb-true _ _ y) (omega (arith, simp t at less)) in
    let back : suc (used_of next rest room) - 1 ≡ suc (used_of next rest room - 1) = omega (arith, more.0) in
    simp t (omega arith, ap (λ k. get_or (b ∷ rest) k 0) back ∙ more.1))
    (λ n.
    let full = leb-false (length next.told.text + LINE_TEXT) room n in
    let none = used-none next rest room full in
    cases (eqb b 10)
    (λ y. simp (t, none) (omega arith, eqb-true b 10 y))
    (λ m. let same = ap (λ x. length x.told.text) (carry-byte c.told c.line c.count b m) in absurd (omega (arith, same, full))))

pub stops-at-line-end : (h : Carrying) (piece out : List ℕ) → LINE_TEXT ≤ length out → used_once h piece out < length piece → get_or piece (used_once h piece out - 1) 0 ≡ 10
unfolding feed_of
stops-at-line-end h piece out room less = (stopped (lent h) piece (length out) room less).1

-- what a call wrote is a beginning of the buffer that it leaves
pub wrote-within : (c : Carrying) (piece out : List ℕ) → (feed_of c piece (length out)).wrote ≤ length (feed_out c piece out)
unfolding feed_of feed_out
wrote-within c piece out = simp length-append (omega arith)

pub closed-within : (c : Carrying) (out : List ℕ) → (close_of c).wrote ≤ length (close_out c out)
unfolding close_of close_out
closed-within c out = simp length-append (omega arith)

-- a call on what is left of a piece leads to where the piece leads from its start
fed-goes-on : (c k : Carrying) (piece : List ℕ) (at room : ℕ) → k ≡ lent (fed_by c (take at piece))
    → lent (fed_in k (drop at piece) room) ≡ lent (fed_by c (take (at + used_of k (drop at piece) room) piece))
unfolding fed_in
fed-goes-on c k piece at room e =
    let h = fed_by c (take at piece) in
    let u = used_of k (drop at piece) room in
    let xs = take u (drop at piece) in
    ap (λ x. lent (fed_by x xs)) e
    ∙ ap lent (sym (behind-fed h.told.text (lent h) xs) ∙ ap (λ x. fed_by x xs) (lent-behind h) ∙ sym (fed-append c (take at piece) xs) ∙ ap (fed_by c) (sym (take-add at u piece)))

-- one turn of a loop that feeds what is left of a piece
pub turn : (c : Carrying) (session : Session) (store records line piece rest out : List ℕ) (at : ℕ)
    → carrying session store records line ≡ lent (fed_by c (take at piece)) → rest ≡ drop at piece → at < length piece → LINE_TEXT ≤ length out
    → let fed = feed_of (carrying session store records line) rest (length out) in
    (carrying fed.session (feed_store (carrying session store records line) rest (length out)) (feed_records (carrying session store records line) rest (length out)) (feed_line (carrying session store records line) rest (length out)) ≡ lent (fed_by c (take (at + fed.used) piece)))
    × (0 < fed.used)
    × (at + fed.used ≤ length piece)
unfolding feed_of
turn c session store records line piece rest out at e r less room =
    let k = carrying session store records line in
    let some = used-some k rest out room (omega (arith, ap length r, length-drop at piece)) in
    let most = used-within k rest (length out) in (
      ap (λ x. lent (fed_in k x (length out))) r ∙ fed-goes-on c k piece at (length out) e ∙ ap (λ x. lent (fed_by c (take (at + used_of k x (length out)) piece))) (sym r),
      some,
      omega (arith, most, ap length r, length-drop at piece),
    )

-- ---- all calls

times-are-fed : (n : ℕ) (outs : ℕ → List ℕ) (h : Carrying) (piece : List ℕ) → ((k : ℕ) → LINE_TEXT ≤ length (outs k)) → length piece ≤ n → fed_times n outs h piece ≡ fed_by h piece
unfolding fed_times fed_by
times-are-fed zero outs h [] room few = refl
times-are-fed zero outs h (b ∷ rest) room few = absurd (omega arith)
times-are-fed (suc n) outs h piece room few =
    let u = used_once h piece (outs 0) in
    let fewer : length (drop u piece) ≤ n =
    cases (eqb (length piece) 0)
    (λ y. omega (arith, length-drop u piece, eqb-true (length piece) 0 y))
    (λ m. omega (arith, length-drop u piece, used-some h piece (outs 0) (room 0) (omega (arith, eqb-false (length piece) 0 m))))
    in
    times-are-fed n (λ k. outs (suc k)) (fed_once h piece (outs 0)) (drop u piece) (λ k. room (suc k)) fewer
    ∙ ap (λ c. fed_by c (drop u piece)) (once-is-fed h piece (outs 0))
    ∙ sym (fed-append h (take u piece) (drop u piece))
    ∙ ap (fed_by h) (take-append-drop u piece)

pub pieces-are-fed : (outs : ℕ → ℕ → List ℕ) (h : Carrying) (pieces : List (List ℕ)) → ((i k : ℕ) → LINE_TEXT ≤ length (outs i k)) → fed_pieces outs h pieces ≡ fed_by h (joined pieces)
unfolding fed_pieces fed_by joined
pieces-are-fed outs h [] room = refl
pieces-are-fed outs h (piece ∷ rest) room =
    ap (λ c. fed_pieces (λ i. outs (suc i)) c rest) (times-are-fed (length piece) (outs 0) h piece (room 0) (omega arith))
    ∙ pieces-are-fed (λ i. outs (suc i)) (fed_by h piece) rest (λ i. room (suc i))
    ∙ sym (fed-append h piece (joined rest))

last-lent : (h : Carrying) → last_of (lent h) ≡ last_of h
unfolding last_of last_line
last-lent h = refl

closed_is : (h : Carrying) (out : List ℕ) → closed_once h out ≡ closed h
unfolding close_of close_out closed
closed_is h out =
    let l = last_of h in
    let said = said_by l.said.answer in
    ap (λ x. told_of x.said.replay x.store x.records (h.told.text ++ take (length (said_by x.said.answer)) (said_by x.said.answer ++ drop (length (said_by x.said.answer)) out))) (last-lent h)
    ∙ ap (λ t. told_of l.said.replay l.store l.records (h.told.text ++ t)) (take_at said (drop (length said) out) (length said) refl)

-- for every list of pieces, and every sizes of buffers in which a line fits, whatever they held: the text written is the text of the
-- whole input, and the replay, the store and the records at the end are the same
pub pieces-are-whole : (store records line last : List ℕ) (pieces : List (List ℕ)) (outs : ℕ → ℕ → List ℕ) → length line ≡ MAX_LINE → ((i k : ℕ) → LINE_TEXT ≤ length (outs i k))
    → closed_once (fed_pieces outs (begun_with store records line) pieces) last ≡ whole_of store records (joined pieces)
unfolding begun
pieces-are-whole store records line last pieces outs sized room =
    closed_is (fed_pieces outs (begun_with store records line) pieces) last
    ∙ ap closed (pieces-are-fed outs (begun_with store records line) pieces room)
    ∙ fed-is-whole store records line (joined pieces) sized

pub written-is-output : (store records line last : List ℕ) (pieces : List (List ℕ)) (outs : ℕ → ℕ → List ℕ) → length line ≡ MAX_LINE → ((i k : ℕ) → LINE_TEXT ≤ length (outs i k))
    → (closed_once (fed_pieces outs (begun_with store records line) pieces) last).text ≡ output_of store records (joined pieces)
unfolding output_of
written-is-output store records line last pieces outs sized room = ap (λ t. t.text) (pieces-are-whole store records line last pieces outs sized room)
