-- Document 01, "The replay program", over input that comes in pieces, by request [2] of document 02: a step for each byte. Assumes
-- nothing.
use Rattle.std.specs.Prelude.{◌≡◌, refl, false, cond, List, [], ◌∷◌, ◌++◌, ℕ, suc, ◌+◌, ◌≤◌, ◌<◌, eqb, leb, ltb, length, take, drop, set, Some, None, Option}
use Rattle.std.proofs.Common.{◌∙◌, ap, arith, length-take, eq-eqb, ne_eqb, le-leb}
use Rattle.std.proofs.lemmas.Bool.{lt-leb}
use borrow.Table.Steps.{cases}
use Rattle.recording.specs.Frames.{MAX_LINE}
use Rattle.recording.specs.Lines.{until_feed}
use Rattle.seq.specs.declared.Seq.{Seq}
use Rattle.msg.specs.declared.reliable.ReliableMsg.{ReliableMsg}
use Rattle.replaying.specs.declared.session.Replay.{Replay}
use Rattle.replaying.specs.declared.session.Session.{Session}
use Rattle.replaying.specs.declared.feeding.Fed.{Fed}
use Rattle.replaying.specs.declared.feeding.Closed.{Closed}
use Rattle.replaying.specs.Session.{begun, begun_records}
use Rattle.replaying.specs.Taking.{recorded, without_all, ended}
use Rattle.replaying.specs.Line.{Left, left, ended_with, received, awaited, answer_of, every-answer}
use Rattle.replaying.specs.Writing.{LINE_TEXT, text_of}

-- the text that an answer writes: none, or a line
abbrev pub said_by : Option (ℕ × Seq) → List ℕ
said_by None = []
said_by (Some (number, next)) = text_of number next.0

-- a replay with its received store and its records, and the text written so far
pub record Told : Type 0 where
  pub replay : Replay
  pub store : List ℕ
  pub records : List ℕ
  pub text : List ℕ

-- and with the unfinished line: a lent buffer of 2,080 bytes, and how many of them are the line's. A count above 2,080 says that the
-- line is longer.
pub record Carrying : Type 0 where
  pub told : Told
  pub line : List ℕ
  pub count : ℕ

-- a session with what is lent to it, before a call has written anything
abbrev pub carrying : Session → (store records line : List ℕ) → Carrying
carrying s store records line = record {
  told = record { replay = s.replay; store = store; records = records; text = [] };
  line = line;
  count = s.count;
}

-- .. and one that begins
abbrev pub begun_with : (store records line : List ℕ) → Carrying
begun_with store records line = carrying (begun (length records)) store (begun_records records) line

abbrev pub session_of : Carrying → Session
session_of c = record { replay = c.told.replay; count = c.count }

-- "The unfinished line is carried along, at most 2,080 digits."
unfoldable pub line_with : List ℕ → ℕ → ℕ → List ℕ
line_with line count b = cond (ltb count MAX_LINE) (set line count b) line

unfoldable pub count_with : ℕ → ℕ
count_with count = cond (ltb count MAX_LINE) (count + 1) (MAX_LINE + 1)

-- the same over a run of bytes
unfoldable pub carried_line : List ℕ → ℕ → List ℕ → List ℕ
unfolding line_with count_with
carried_line line count [] = line
carried_line line count (b ∷ rest) = carried_line (line_with line count b) (count_with count) rest

unfoldable pub carried_count : ℕ → List ℕ → ℕ
unfolding count_with
carried_count count [] = count
carried_count count (b ∷ rest) = carried_count (count_with count) rest

-- "A longer line is dropped to its end and answered once as a bad line."
unfoldable pub line_left : Replay → (store records line : List ℕ) → ℕ → Left
unfolding answer_of ended without_all
line_left r store records line count =
    cond (leb count MAX_LINE) (answer_of r store records (take count line)) (ended_with 20 (recorded r.state records) store)

-- what is told once this is left, behind a text
abbrev pub told_after : List ℕ → Left → Told
told_after text l = record {
  replay = l.said.replay;
  store = l.store;
  records = l.records;
  text = text ++ said_by l.said.answer;
}

-- the end of the carried line
abbrev pub left_of : Carrying → Left
left_of c = line_left c.told.replay c.told.store c.told.records c.line c.count

unfoldable pub line_ended : Carrying → Carrying
unfolding line_left
line_ended c = record { told = told_after c.told.text (left_of c); line = c.line; count = 0 }

-- one byte: a line feed ends the line, any other byte is carried
unfoldable pub byte_fed : Carrying → ℕ → Carrying
unfolding line_ended line_with count_with
byte_fed c b =
    cond (eqb b 10) (line_ended c)
    (record { told = c.told; line = line_with c.line c.count b; count = count_with c.count })

-- a run of bytes
unfoldable pub fed_by : Carrying → List ℕ → Carrying
unfolding byte_fed
fed_by c [] = c
fed_by c (b ∷ rest) = fed_by (byte_fed c b) rest

-- how many bytes of a piece are used, with a buffer of so many bytes: one byte after the other, as long as there is room for a line's
-- text behind what is written
unfoldable pub used_of : Carrying → List ℕ → ℕ → ℕ
unfolding byte_fed
used_of c [] room = 0
used_of c (b ∷ rest) room = cond (leb (length c.told.text + LINE_TEXT) room) (suc (used_of (byte_fed c b) rest room)) 0

-- the piece as far as it is used
unfoldable pub fed_in : Carrying → List ℕ → ℕ → Carrying
unfolding fed_by used_of
fed_in c piece room = fed_by c (take (used_of c piece room) piece)

unfoldable pub feed_of : Carrying → List ℕ → ℕ → Fed
unfolding fed_in used_of
feed_of c piece room = record {
  session = session_of (fed_in c piece room);
  used = used_of c piece room;
  wrote = length (fed_in c piece room).told.text;
}

abbrev pub feed_store : Carrying → List ℕ → ℕ → List ℕ
feed_store c piece room = (fed_in c piece room).told.store

abbrev pub feed_records : Carrying → List ℕ → ℕ → List ℕ
feed_records c piece room = (fed_in c piece room).told.records

abbrev pub feed_line : Carrying → List ℕ → ℕ → List ℕ
feed_line c piece room = (fed_in c piece room).line

-- a text at the start of a buffer, with nothing else of it changed
abbrev pub starting_with : List ℕ → List ℕ → List ℕ
starting_with text out = text ++ drop (length text) out

unfoldable pub feed_out : Carrying → List ℕ → List ℕ → List ℕ
unfolding fed_in
feed_out c piece out = starting_with (fed_in c piece (length out)).told.text out

-- "a bad or absent payload .. gives hex 14": at the end of the input no payload is to come
abbrev pub absent_as : Option Seq → Left → Left
absent_as None l = l
absent_as (Some seq) l = ended_with 20 (recorded l.said.replay.state l.records) l.store

unfoldable pub absent_of : Left → Left
unfolding ended without_all
absent_of l = absent_as l.said.replay.waiting l

-- what is told, with nothing said
abbrev pub silent : Told → Left
silent t = left (record { answer = None; replay = t.replay }) t.store t.records

-- "Only a closing call accepts a last line without a line feed."
unfoldable pub last_line : Carrying → Left
unfolding line_left
last_line c = cond (eqb c.count 0) (silent c.told) (left_of c)

unfoldable pub last_of : Carrying → Left
unfolding absent_of last_line
last_of c = absent_of (last_line c)

abbrev pub close_store : Carrying → List ℕ
close_store c = (last_of c).store

abbrev pub close_records : Carrying → List ℕ
close_records c = (last_of c).records

-- what closing leads to
unfoldable pub closed : Carrying → Told
unfolding last_of
closed c = told_after c.told.text (last_of c)

abbrev pub closed_as : Replay → ℕ → Closed
closed_as r wrote = record { session = record { replay = r; count = 0 }; wrote = wrote }

unfoldable pub close_of : Carrying → Closed
unfolding closed
close_of c = closed_as (closed c).replay (length (closed c).text)

unfoldable pub close_out : Carrying → List ℕ → List ℕ
unfolding closed
close_out c out = starting_with (closed c).text out

-- ---- laws

-- one run after another is one run
pub fed-append : (c : Carrying) (a b : List ℕ) → fed_by c (a ++ b) ≡ fed_by (fed_by c a) b
unfolding fed_by
fed-append c [] b = refl
fed-append c (x ∷ a) b = fed-append (byte_fed c x) a b

abbrev pub told_of : Replay → (store records text : List ℕ) → Told
told_of r store records text = record { replay = r; store = store; records = records; text = text }

abbrev pub carrying_with : Told → List ℕ → ℕ → Carrying
carrying_with t line count = record { told = t; line = line; count = count }

pub carry-byte : (t : Told) (line : List ℕ) (count b : ℕ) → eqb b 10 ≡ false → byte_fed (carrying_with t line count) b ≡ carrying_with t (line_with line count b) (count_with count)
unfolding byte_fed
carry-byte t line count b e = simp e

-- bytes before a line feed are carried
pub until-carried : (t : Told) (line : List ℕ) (count : ℕ) (xs : List ℕ)
    → fed_by (carrying_with t line count) (until_feed xs) ≡ carrying_with t (carried_line line count (until_feed xs)) (carried_count count (until_feed xs))
unfolding fed_by until_feed carried_line carried_count
until-carried t line count [] = refl
until-carried t line count (b ∷ rest) =
    cases (eqb b 10)
    (λ e. simp e)
    (λ e.
    let u : until_feed (b ∷ rest) ≡ b ∷ until_feed rest = simp e in
    rw u
    (ap (λ c. fed_by c (until_feed rest)) (carry-byte t line count b e)
    ∙ until-carried t (line_with line count b) (count_with count) rest))

module _ (r : Replay) (store records line : List ℕ) (count : ℕ) where
  pub line-long : MAX_LINE < count → line_left r store records line count ≡ ended_with 20 (recorded r.state records) store
  unfolding line_left
  line-long h = simp (lt-leb count MAX_LINE h)

  pub line-short : count ≤ MAX_LINE → line_left r store records line count ≡ answer_of r store records (take count line)
  unfolding line_left
  line-short h = simp (le-leb count MAX_LINE h)

-- what holds of the end of a frame, of a message that is received and of a Data that waits holds of what the carried line leaves
pub every-line : (P : Left → Type 0) (r : Replay) (store records line : List ℕ) (count : ℕ) → ((number : ℕ) → P (ended_with number (recorded r.state records) store))
    → ((msg : ReliableMsg) (seq : Seq) (bytes : List ℕ) → length bytes ≤ count → P (received (recorded r.state records) store msg seq bytes))
    → ((seq : Seq) → P (awaited (recorded r.state records) store seq)) → P (line_left r store records line count)
unfolding line_left answer_of
every-line P r store records line count ends receives awaits =
    cases (leb count MAX_LINE)
    (λ t.
    simp t
    (every-answer P (recorded r.state records) store (take count line) ends
    (λ msg seq bytes few. receives msg seq bytes (omega (arith, few, length-take count line))) awaits r.waiting))
    (λ f. simp f (ends 20))

module _ (c : Carrying) where
  pub close-none : c.count ≡ 0 → last_line c ≡ silent c.told
  unfolding last_line
  close-none h = simp (eq-eqb c.count 0 h)

  pub close-last : (c.count ≡ 0 → ⊥) → last_line c ≡ left_of c
  unfolding last_line
  close-last h = simp (ne_eqb c.count 0 h)

-- an answer's text is a line of twelve bytes, or none
pub said-short : (a : Option (ℕ × Seq)) → length (said_by a) ≤ LINE_TEXT
unfolding text_of
said-short None = omega arith
said-short (Some (number, next)) = omega arith
