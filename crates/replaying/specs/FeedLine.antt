-- One step of feeding: a piece from a place up to and with the next line feed, or to its end. That as many steps as there is room for are
-- what `feed` promises. Assumes nothing.
use Rattle.std.specs.Prelude.{◌≡◌, refl, cond, List, [], ◌∷◌, ◌++◌, ℕ, ◌+◌, ◌≤◌, ◌<◌, eqb, leb}
use Rattle.std.proofs.Math.Path.{sym, ap}
use Rattle.std.proofs.Common.{◌∙◌, append-nil, append_assoc, not-suc-le-zero, zero-add, arith, drop_of_length-le, take-add}
use Rattle.std.proofs.Math.Nat.{add-zero}
use Rattle.std.proofs.Math.ListN.{length, take, drop, length-append, length-drop, take-append-drop}
use Rattle.std.proofs.Math.Seq.{drop-drop, take_at, drop_at, length-take-le}
use borrow.Author.Tests.{eqb-true, le-leb, lt-leb, leb-true, leb-false}
use borrow.Table.Steps.{cases}
use Rattle.text.specs.Put.{has_room, put_end, put_in}
use Rattle.recording.specs.Lines.{until_feed}
use Rattle.replaying.specs.declared.session.Session.{Session}
use Rattle.replaying.specs.declared.session.Answered.{Answered}
use Rattle.replaying.specs.declared.feeding.Fed.{Fed}
use Rattle.replaying.specs.Line.{left}
use Rattle.replaying.specs.Writing.{LINE_TEXT}
use Rattle.replaying.specs.Feeding.{Carrying, carrying, carrying_with, told_of, session_of, line_left, left_of, line_ended, byte_fed, fed_by, carried_line, carried_count, used_of, fed_in, feed_of, feed_store, feed_records, feed_line, feed_out, starting_with, said_by, said-short, fed-append, carry-byte, until-carried}

-- the bytes up to and with the next line feed, or all where there is none
unfoldable pub through_feed : List ℕ → List ℕ
through_feed [] = []
through_feed (b ∷ rest) = cond (eqb b 10) (b ∷ []) (b ∷ through_feed rest)

-- from where a call got to in a piece
unfoldable pub line_fed : Fed → (store records line piece : List ℕ) → Carrying
unfolding fed_by through_feed
line_fed fed store records line piece = fed_by (carrying fed.session store records line) (through_feed (drop fed.used piece))

unfoldable pub line_of : Fed → (store records line piece : List ℕ) → Fed
unfolding line_fed through_feed
line_of fed store records line piece = record {
  session = session_of (line_fed fed store records line piece);
  used = fed.used + length (through_feed (drop fed.used piece));
  wrote = fed.wrote + length (line_fed fed store records line piece).told.text;
}

abbrev pub fed_as : Session → ℕ → ℕ → Fed
fed_as session used wrote = record { session = session; used = used; wrote = wrote }

-- ---- laws

pub through-ended : (xs : List ℕ) → length (until_feed xs) < length xs → through_feed xs ≡ until_feed xs ++ (10 ∷ [])
unfolding until_feed through_feed
through-ended [] h = absurd (not-suc-le-zero h)
through-ended (b ∷ rest) h =
    cases (eqb b 10)
    (λ e. simp e (ap (λ x. x ∷ []) (eqb-true b 10 e)))
    (λ e. let g = simp e at h in simp e (ap (λ l. b ∷ l) (through-ended rest (omega arith))))

pub through-open : (xs : List ℕ) → length xs ≤ length (until_feed xs) → through_feed xs ≡ until_feed xs
unfolding until_feed through_feed
through-open [] h = refl
through-open (b ∷ rest) h =
    cases (eqb b 10)
    (λ e. let g = simp e at h in absurd (omega arith))
    (λ e. let g = simp e at h in simp e (ap (λ l. b ∷ l) (through-open rest (omega arith))))

-- the run that feeding takes, and what is left behind it, are the piece
pub through-split : (xs : List ℕ) → through_feed xs ++ drop (length (through_feed xs)) xs ≡ xs
unfolding through_feed
through-split [] = refl
through-split (b ∷ rest) =
    cases (eqb b 10)
    (λ e. simp e)
    (λ e.
    let u : through_feed (b ∷ rest) ≡ b ∷ through_feed rest = simp e in
    rw u (ap (λ l. b ∷ l) (through-split rest)))

-- a piece without a line feed from there on, and one with
module _ (fed : Fed) (store records line piece : List ℕ) where
  abbrev until : List ℕ
  until = until_feed (drop fed.used piece)

  abbrev pub gathered : Carrying
  gathered = carrying_with (carrying fed.session store records line).told (carried_line line fed.session.count until) (carried_count fed.session.count until)

  pub fed-open : length piece ≤ fed.used + length until → line_fed fed store records line piece ≡ gathered
  unfolding line_fed
  fed-open h =
      ap (fed_by (carrying fed.session store records line)) (through-open (drop fed.used piece) (simp length-drop (omega arith)))
      ∙ until-carried (carrying fed.session store records line).told line fed.session.count (drop fed.used piece)

  pub fed-ended : fed.used + length until < length piece → line_fed fed store records line piece ≡ line_ended gathered
  unfolding line_fed fed_by byte_fed
  fed-ended h =
      ap (fed_by (carrying fed.session store records line)) (through-ended (drop fed.used piece) (simp length-drop (omega arith)))
      ∙ fed-append (carrying fed.session store records line) until (10 ∷ [])
      ∙ ap (λ c. byte_fed c 10) (until-carried (carrying fed.session store records line).told line fed.session.count (drop fed.used piece))

  pub place-open : length piece ≤ fed.used + length until → fed.used + length (through_feed (drop fed.used piece)) ≡ fed.used + length until
  place-open h = ap (λ l. fed.used + length l) (through-open (drop fed.used piece) (simp length-drop (omega arith)))

  pub place-ended : fed.used + length until < length piece → fed.used + length (through_feed (drop fed.used piece)) ≡ fed.used + length until + 1
  place-ended h =
      ap (λ l. fed.used + length l) (through-ended (drop fed.used piece) (simp length-drop (omega arith)))
      ∙ simp length-append (omega arith)

-- what a step answers and leaves, by what its parts answer and leave
pub record Step (fed : Fed) (store records line piece out : List ℕ) (f : Fed) (store' records' line' out' : List ℕ) : Type 0 where
  pub answer : f ≡ line_of fed store records line piece
  pub stored : store' ≡ (line_fed fed store records line piece).told.store
  pub recorded : records' ≡ (line_fed fed store records line piece).told.records
  pub carried : line' ≡ (line_fed fed store records line piece).line
  pub put : out' ≡ put_in (line_fed fed store records line piece).told.text out fed.wrote

pub put-nothing : (out : List ℕ) (at : ℕ) → (at ≡ at + length {A = ℕ} []) × (out ≡ put_in [] out at)
unfolding has_room put_in
put-nothing out at =
    let k : at + 0 ≡ at = add-zero at in
    (sym k, rw k (cases (leb at (length out)) (λ t. simp (t, take-append-drop)) (λ f. simp f)))

pub put-room : (run out : List ℕ) (at : ℕ) → at + length run ≤ length out → put_end run out at ≡ at + length run
unfolding has_room put_end
put-room run out at h = simp (le-leb (at + length run) (length out) h)

pub put-start : (run out : List ℕ) → length run ≤ length out → put_in run out 0 ≡ starting_with run out
unfolding has_room put_in
put-start run out h =
    let k : 0 + length run ≡ length run = zero-add (length run) in
    rw k (simp (le-leb (length run) (length out) h))

module _ (fed : Fed) (store records line piece out : List ℕ) {C P : ℕ} {L : List ℕ}
    (counted : C ≡ (gathered fed store records line piece).count) (placed : P ≡ fed.used + length (until_feed (drop fed.used piece)))
    (held : L ≡ (gathered fed store records line piece).line) where
  pub line-open : length piece ≤ P → Step fed store records line piece out (fed_as (record { replay = fed.session.replay; count = C }) P fed.wrote) store records L out
  unfolding line_of
  line-open h =
      let e = fed-open fed store records line piece (rw placed at h) in
      let p = place-open fed store records line piece (rw placed at h) in
      let nothing = put-nothing out fed.wrote in
      record {
        answer = ap (λ n. fed_as (record { replay = fed.session.replay; count = n }) P fed.wrote) counted
            ∙ ap (λ n. fed_as (session_of (gathered fed store records line piece)) n fed.wrote) (placed ∙ sym p)
            ∙ ap (fed_as (session_of (gathered fed store records line piece)) _) nothing.0
            ∙ sym (ap (λ x. fed_as (session_of x) (fed.used + length (through_feed (drop fed.used piece))) (fed.wrote + length x.told.text)) e);
        stored = sym (ap (λ x. x.told.store) e);
        recorded = sym (ap (λ x. x.told.records) e);
        carried = held ∙ sym (ap (λ x. x.line) e);
        put = nothing.1 ∙ sym (ap (λ x. put_in x.told.text out fed.wrote) e);
      }

  pub line-ended : {a : Answered} {store' records' out' : List ℕ} {W : ℕ} → P < length piece → left a store' records' ≡ line_left fed.session.replay store records L C
      → W ≡ fed.wrote + length (said_by a.answer) → out' ≡ put_in (said_by a.answer) out fed.wrote
      → Step fed store records line piece out (fed_as (record { replay = a.replay; count = 0 }) (P + 1) W) store' records' L out'
  unfolding line_of line_ended
  line-ended h said wrote put =
      let e = fed-ended fed store records line piece (rw placed at h) in
      let p = place-ended fed store records line piece (rw placed at h) in
      let G = gathered fed store records line piece in
      let full = said ∙ ap (λ l. line_left fed.session.replay store records l C) held ∙ ap (line_left fed.session.replay store records G.line) counted in
      record {
        answer = ap (fed_as _ (P + 1)) wrote
            ∙ ap (λ x. fed_as (record { replay = x.said.replay; count = 0 }) (P + 1) (fed.wrote + length (said_by x.said.answer))) full
            ∙ ap (λ n. fed_as (session_of (line_ended G)) n (fed.wrote + length (line_ended G).told.text)) (ap (λ n. n + 1) placed ∙ sym p)
            ∙ sym (ap (λ x. fed_as (session_of x) (fed.used + length (through_feed (drop fed.used piece))) (fed.wrote + length x.told.text)) e);
        stored = ap (λ x. x.store) full ∙ sym (ap (λ x. x.told.store) e);
        recorded = ap (λ x. x.records) full ∙ sym (ap (λ x. x.told.records) e);
        carried = held ∙ sym (ap (λ x. x.line) e);
        put = put ∙ ap (λ x. put_in (said_by x.said.answer) out fed.wrote) full ∙ sym (ap (λ x. put_in x.told.text out fed.wrote) e);
      }

-- the same with a text before what it writes
abbrev pub behind : List ℕ → Carrying → Carrying
behind text c = carrying_with (told_of c.told.replay c.told.store c.told.records (text ++ c.told.text)) c.line c.count

behind-ended : (text : List ℕ) (c : Carrying) → line_ended (behind text c) ≡ behind text (line_ended c)
unfolding line_ended
behind-ended text c =
    let l = left_of c in
    ap (λ t. carrying_with (told_of l.said.replay l.store l.records t) c.line 0) (append_assoc text c.told.text (said_by l.said.answer))

behind-byte : (text : List ℕ) (c : Carrying) (b : ℕ) → byte_fed (behind text c) b ≡ behind text (byte_fed c b)
unfolding byte_fed
behind-byte text c b = cases (eqb b 10) (λ y. simp y (behind-ended text c)) (λ n. simp n)

pub behind-fed : (text : List ℕ) (c : Carrying) (xs : List ℕ) → fed_by (behind text c) xs ≡ behind text (fed_by c xs)
unfolding fed_by
behind-fed text c [] = refl
behind-fed text c (b ∷ rest) = ap (λ x. fed_by x rest) (behind-byte text c b) ∙ behind-fed text (byte_fed c b) rest

-- where a line's text has room, all bytes up to and with the next line feed are used
pub used-line : (c : Carrying) (xs : List ℕ) (room : ℕ) → length c.told.text + LINE_TEXT ≤ room
    → used_of c xs room ≡ length (through_feed xs) + used_of (fed_by c (through_feed xs)) (drop (length (through_feed xs)) xs) room
unfolding used_of through_feed fed_by
used-line c [] room h = refl
used-line c (b ∷ rest) room h =
    let t = le-leb (length c.told.text + LINE_TEXT) room h in
    cases (eqb b 10)
    (λ y. let u : through_feed (b ∷ rest) ≡ b ∷ [] = simp y in rw u (simp t (omega arith)))
    (λ n.
    let u : through_feed (b ∷ rest) ≡ b ∷ through_feed rest = simp n in
    let same : (byte_fed c b).told.text ≡ c.told.text = ap (λ x. x.told.text) (carry-byte c.told c.line c.count b n) in
    rw u (simp t (omega (arith, used-line (byte_fed c b) rest room (rw same h)))))

-- and where it has none, no byte is
pub used-none : (c : Carrying) (xs : List ℕ) (room : ℕ) → room < length c.told.text + LINE_TEXT → used_of c xs room ≡ 0
unfolding used_of
used-none c [] room h = refl
used-none c (b ∷ rest) room h = simp (lt-leb (length c.told.text + LINE_TEXT) room h)

pub used-within : (c : Carrying) (xs : List ℕ) (room : ℕ) → used_of c xs room ≤ length xs
unfolding used_of
used-within c [] room = omega arith
used-within c (b ∷ rest) room =
    cases (leb (length c.told.text + LINE_TEXT) room)
    (λ t. simp t (omega (arith, used-within (byte_fed c b) rest room)))
    (λ f. simp f (omega arith))

-- a step writes one line at most
line-text : (fed : Fed) (store records line piece : List ℕ) → length (line_fed fed store records line piece).told.text ≤ LINE_TEXT
unfolding line_ended
line-text fed store records line piece =
    cases (leb (length piece) (fed.used + length (until_feed (drop fed.used piece))))
    (λ t. rw (fed-open fed store records line piece (leb-true _ _ t)) (omega arith))
    (λ f.
    let l = left_of (gathered fed store records line piece) in
    rw (fed-ended fed store records line piece (leb-false _ _ f)) (said-short l.said.answer))

-- ---- the loop

-- where a call stands that has used so much of a piece, and written so much to a buffer: it stands where those bytes lead, and of the
-- buffer only what it wrote has changed
pub record Going (c : Carrying) (piece out₀ : List ℕ) (fed : Fed) (store records line out : List ℕ) : Type 0 where
  pub same : behind (take fed.wrote out) (carrying fed.session store records line) ≡ fed_by c (take fed.used piece)
  pub rest : used_of c piece (length out₀) ≡ fed.used + used_of (fed_by c (take fed.used piece)) (drop fed.used piece) (length out₀)
  pub free : drop fed.wrote out ≡ drop fed.wrote out₀
  pub sized : length out ≡ length out₀
  pub fits : fed.wrote ≤ length out

pub going-begins : (session : Session) (store records line piece out : List ℕ) → Going (carrying session store records line) piece out (fed_as session 0 0) store records line out
unfolding fed_by
going-begins session store records line piece out = record { same = refl; rest = sym (zero-add _); free = refl; sized = refl; fits = omega arith }

module _ (c : Carrying) (piece out₀ : List ℕ) (fed : Fed) (store records line out : List ℕ) (g : Going c piece out₀ fed store records line out) where
  -- the text that is written
  text-is : (fed_by c (take fed.used piece)).told.text ≡ take fed.wrote out
  text-is = sym (ap (λ x. x.told.text) g.same) ∙ append-nil (take fed.wrote out)

  text-length : length (fed_by c (take fed.used piece)).told.text ≡ fed.wrote
  text-length = ap length text-is ∙ length-take-le fed.wrote out g.fits

  -- one step more
  module _ (room : fed.wrote + LINE_TEXT ≤ length out) where
    abbrev L : Carrying
    L = line_fed fed store records line piece

    abbrev through : List ℕ
    through = through_feed (drop fed.used piece)

    abbrev front : List ℕ
    front = take fed.wrote out ++ L.told.text

    abbrev wrote : ℕ
    wrote = fed.wrote + length L.told.text

    put-out : put_in L.told.text out fed.wrote ≡ front ++ drop wrote out
    unfolding put_in has_room
    put-out =
        let t = le-leb wrote (length out) (omega (arith, line-text fed store records line piece)) in
        simp t (sym (append_assoc (take fed.wrote out) L.told.text (drop wrote out)))

    front_length : length front ≡ wrote
    front_length = length-append (take fed.wrote out) L.told.text ∙ ap (λ n. n + length L.told.text) (length-take-le fed.wrote out g.fits)

    through-taken : take (length through) (drop fed.used piece) ≡ through
    through-taken = ap (take (length through)) (sym (through-split (drop fed.used piece))) ∙ take_at through _ (length through) refl

    fed-on : fed_by c (take (fed.used + length through) piece) ≡ behind (take fed.wrote out) L
    unfolding line_fed
    fed-on =
        ap (fed_by c) (take-add fed.used (length through) piece ∙ ap (λ l. take fed.used piece ++ l) through-taken)
        ∙ fed-append c (take fed.used piece) through
        ∙ ap (λ x. fed_by x through) (sym g.same)
        ∙ behind-fed (take fed.wrote out) (carrying fed.session store records line) through

    going_on : Going c piece out₀ (line_of fed store records line piece) L.told.store L.told.records L.line (put_in L.told.text out fed.wrote)
    unfolding line_of
    going_on =
        let taken : take wrote (put_in L.told.text out fed.wrote) ≡ front = ap (take wrote) put-out ∙ take_at front (drop wrote out) wrote front_length in
        let left : drop wrote (put_in L.told.text out fed.wrote) ≡ drop wrote out = ap (drop wrote) put-out ∙ drop_at front (drop wrote out) wrote front_length in
        let size : length (put_in L.told.text out fed.wrote) ≡ length out =
        ap length put-out ∙ length-append front (drop wrote out) ∙ (let k = front_length in let d = length-drop wrote out in let few = line-text fed store records line piece in omega arith)
        in
        record {
          same = ap (λ t. carrying_with (told_of L.told.replay L.told.store L.told.records (t ++ [])) L.line L.count) taken
              ∙ ap (λ t. carrying_with (told_of L.told.replay L.told.store L.told.records t) L.line L.count) (append-nil front)
              ∙ sym fed-on;
          rest =
              let more = used-line (fed_by c (take fed.used piece)) (drop fed.used piece) (length out₀) (rw text-length (omega (arith, g.sized))) in
              g.rest
              ∙ ap (λ n. fed.used + n) more
              ∙ ap (λ x. fed.used + (length through + used_of x (drop (length through) (drop fed.used piece)) (length out₀)))
              (sym (fed-append c (take fed.used piece) through) ∙ ap (fed_by c) (sym (take-add fed.used (length through) piece ∙ ap (λ l. take fed.used piece ++ l) through-taken)))
              ∙ ap (λ l. fed.used + (length through + used_of (fed_by c (take (fed.used + length through) piece)) l (length out₀))) (drop-drop (length through) fed.used piece)
              ∙ omega arith;
          free = left ∙ sym (drop-drop (length L.told.text) fed.wrote out) ∙ ap (drop (length L.told.text)) g.free ∙ drop-drop (length L.told.text) fed.wrote out₀;
          sized = size ∙ g.sized;
          fits = omega (arith, size, line-text fed store records line piece);
        }

    pub going_step : {f : Fed} {store' records' line' out' : List ℕ} → Step fed store records line piece out f store' records' line' out' → Going c piece out₀ f store' records' line' out'
    going_step e = rw (e.answer, e.stored, e.recorded, e.carried, e.put) going_on

  -- the end: nothing of the piece is left, or no room for a line
  all-used : length piece ≤ fed.used → used_of c piece (length out₀) ≡ fed.used
  unfolding used_of
  all-used h = g.rest ∙ ap (λ l. fed.used + used_of (fed_by c (take fed.used piece)) l (length out₀)) (drop_of_length-le piece h) ∙ add-zero fed.used

  full-used : length out < fed.wrote + LINE_TEXT → used_of c piece (length out₀) ≡ fed.used
  full-used h =
      g.rest
      ∙ ap (λ n. fed.used + n) (used-none (fed_by c (take fed.used piece)) (drop fed.used piece) (length out₀) (rw text-length (omega (arith, g.sized))))
      ∙ add-zero fed.used

  -- what `feed` promises
  abbrev Promised : Type 0
  Promised =
      (fed ≡ feed_of c piece (length out₀))
      × ((store ≡ feed_store c piece (length out₀))
      × ((records ≡ feed_records c piece (length out₀))
      × ((line ≡ feed_line c piece (length out₀))
      × (out ≡ feed_out c piece out₀))))

  going-ends : used_of c piece (length out₀) ≡ fed.used → Promised
  unfolding feed_of fed_in feed_out
  going-ends u =
      let e : fed_by c (take (used_of c piece (length out₀)) piece) ≡ behind (take fed.wrote out) (carrying fed.session store records line) = ap (λ n. fed_by c (take n piece)) u ∙ sym g.same in
      let w : length (take fed.wrote out ++ []) ≡ fed.wrote = ap length (append-nil (take fed.wrote out)) ∙ length-take-le fed.wrote out g.fits in (
        sym (ap (λ x. fed_as (session_of x) (used_of c piece (length out₀)) (length x.told.text)) e ∙ ap (λ n. fed_as fed.session n (length (take fed.wrote out ++ []))) u ∙ ap (fed_as fed.session fed.used) w),
        (
          sym (ap (λ x. x.told.store) e),
          (
            sym (ap (λ x. x.told.records) e),
            (
              sym (ap (λ x. x.line) e),
              sym (ap (λ x. starting_with x.told.text out₀) e
                  ∙ ap (λ n. (take fed.wrote out ++ []) ++ drop n out₀) w
                  ∙ ap (λ l. (take fed.wrote out ++ []) ++ l) (sym g.free)
                  ∙ ap (λ l. l ++ drop fed.wrote out) (append-nil (take fed.wrote out))
                  ∙ take-append-drop fed.wrote out),
            ),
          ),
        ),
      )

  pub going-all : length piece ≤ fed.used → Promised
  going-all h = going-ends (all-used h)

  pub going-full : length out < fed.wrote + LINE_TEXT → Promised
  going-full h = going-ends (full-used h)
