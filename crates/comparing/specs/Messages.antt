-- Document 02 [6]: "reads both as hexadecimal frames, one frame a line, Data payloads after their frames". What each line of a recording
-- is, and the messages that it holds. A recording is the list of its bytes. Assumes nothing.
use Rattle.std.specs.Prelude.{◌≡◌, refl, Bool, true, false, cond, ◌&&◌, List, [], ◌∷◌, ℕ, zero, suc, ◌+◌, ◌*◌, ◌<◌, eqb, leb, length, get_or, Some, None, Option, Ok, Err, Result}
use Rattle.refusal.specs.declared.Refusal.{Refusal}
use Rattle.seq.specs.declared.Seq.{Seq}
use Rattle.msg.specs.declared.link_msg.LinkMsg.{LinkMsg}
use Rattle.std.proofs.Common.{sym, ◌∙◌, arith, take_all, eq-eqb, ne_eqb, leb-false}
use borrow.Table.Steps.{cases}
use Rattle.seq.specs.Numbers.{seq_of}
use Rattle.msg.specs.declared.reliable.ReliableMsg.{ReliableMsg}
use Rattle.msg.specs.declared.reliable.ReliableMsg.TheVariants as reliable
use Rattle.msg.specs.Reading.{number_at}
use Rattle.msg.specs.Reliable.{from_link}
use Rattle.text.specs.Hex.{hex_value, hex_byte}
use Rattle.text.specs.HexRun.{before, spells, spelt, read_hex_of, read_hex_in, count-says, counted_start}
use Rattle.recording.specs.Lines.{lines_from, lines_of}
use Rattle.recording.specs.Frames.{frame_of}
use Rattle.recording.specs.Payloads.{is_payload}
use Rattle.comparing.specs.declared.messages.Message.{Message}
use Rattle.comparing.specs.declared.messages.Found.{Found}
use Rattle.comparing.specs.declared.messages.Found.TheVariants as found

-- "a start number, eight digits, on each first line"
unfoldable pub start_line : List ℕ → Option Seq
unfolding spells spelt number_at
start_line line = cond (eqb (length line) 8 && spells line) (Some (seq_of (number_at (spelt line) 0))) None

-- "Data payloads after their frames": a Data is whole with the next line, the other messages with a number as they stand
abbrev pub found_reliable : ReliableMsg → Message → Found
found_reliable reliable.Data m = found.Awaits m
found_reliable (reliable.Consumed n) m = found.Holds m
found_reliable reliable.SendFinish m = found.Holds m
found_reliable reliable.ReceiveClose m = found.Holds m
found_reliable reliable.ReceiveFinish m = found.Holds m

-- "acks and frames without a number are passed over"
abbrev pub found_carried : Option (ReliableMsg × Seq) → ℕ → ℕ → Found
found_carried (Some (msg, seq)) at line = found_reliable msg (record { number = seq; at = at; line = line })
found_carried None at line = found.Passes

abbrev pub found_reading : Result LinkMsg Refusal → ℕ → ℕ → Found
found_reading (Ok msg) at line = found_carried (from_link msg) at line
found_reading (Err e) at line = found.Bad

abbrev pub found_payload : Bool → Message → Found
found_payload true m = found.Holds m
found_payload false m = found.Bad

-- what the line that begins at a place is; a frame's line and a payload's are the replay's
unfoldable pub line_found : Option Message → ℕ → ℕ → List ℕ → Found
unfolding frame_of is_payload
line_found None at line text = found_reading (frame_of text) at line
line_found (Some m) at line text = found_payload (is_payload text) m

abbrev pub waiting_after : Found → Option Message
waiting_after found.Bad = None
waiting_after (found.Awaits m) = Some m
waiting_after (found.Holds m) = None
waiting_after found.Passes = None

-- the messages of a recording in the order of their lines, up to its first bad line; that line, from 1, or 0 where none is bad
pub record Body : Type 0 where
  pub messages : List Message
  pub bad : ℕ

abbrev pub bad_at : ℕ → Body
bad_at line = record { messages = []; bad = line }

-- at the end no payload is to come any more: an absent one makes its frame's line bad
abbrev pub ends_at : Option Message → ℕ
ends_at None = 0
ends_at (Some m) = m.line

abbrev pub body_as : Found → ℕ → (Option Message → Body) → Body
body_as found.Bad line rest = bad_at line
body_as (found.Awaits m) line rest = rest (Some m)
body_as (found.Holds m) line rest = record { messages = m ∷ (rest None).messages; bad = (rest None).bad }
body_as found.Passes line rest = rest None

-- from a place and a line on
unfoldable pub body_from : Option Message → ℕ → ℕ → List (List ℕ) → Body
unfolding line_found
body_from w at line [] = bad_at (ends_at w)
body_from w at line (text ∷ rest) = body_as (line_found w at line text) line (λ v. body_from v (at + length text + 1) (line + 1) rest)

-- a recording whose first line is no start number is bad there
abbrev pub body_after : Option Seq → List ℕ → List (List ℕ) → Body
body_after (Some start) text rest = body_from None (length text + 1) 2 rest
body_after None text rest = bad_at 1

abbrev pub body_in : List (List ℕ) → Body
body_in [] = bad_at 1
body_in (text ∷ rest) = body_after (start_line text) text rest

unfoldable pub body_of : List ℕ → Body
unfolding lines_from start_line body_from
body_of input = body_in (lines_of input)

-- the start number; 0 where there is none
abbrev pub start_as : Option Seq → ℕ
start_as (Some start) = start.0
start_as None = 0

abbrev pub start_in : List (List ℕ) → ℕ
start_in [] = 0
start_in (text ∷ rest) = start_as (start_line text)

unfoldable pub start_of : List ℕ → ℕ
unfolding lines_from start_line
start_of input = start_in (lines_of input)

-- ---- laws

-- two digits make a byte
byte_small : (high low b : ℕ) → hex_byte high low ≡ Some b → b < 256
unfolding hex_byte
byte_small high low b e =
    cases (leb 16 (hex_value high))
    (λ t. let z : ◌≡◌ {A = ℕ} 0 1 = cc (simp t at e) in absurd (omega arith))
    (λ f.
    cases (leb 16 (hex_value low))
    (λ t. let z : ◌≡◌ {A = ℕ} 0 1 = cc (simp (f, t) at e) in absurd (omega arith))
    (λ g.
    let v : hex_value high * 16 + hex_value low ≡ b = cc (simp (f, g) at e) in
    omega (arith, leb-false 16 (hex_value high) f, leb-false 16 (hex_value low) g)))

-- a byte before bytes
before_small : (b : Option ℕ) (rest : List ℕ) → ((v : ℕ) → b ≡ Some v → v < 256) → ((k : ℕ) → get_or rest k 0 < 256) → (k : ℕ) → get_or (before b rest) k 0 < 256
before_small (Some v) rest first others zero = first v refl
before_small (Some v) rest first others (suc k) = others k
before_small None rest first others k = omega arith

-- a line spells bytes
pub spelt-small : (line : List ℕ) (k : ℕ) → get_or (spelt line) k 0 < 256
unfolding spelt
spelt-small [] k = omega arith
spelt-small (high ∷ []) k = omega arith
spelt-small (high ∷ low ∷ rest) k = before_small (hex_byte high low) (spelt rest) (byte_small high low) (spelt-small rest) k

-- the cases of a first line
module _ (line : List ℕ) where
  pub start-other : (length line ≡ 8 → ⊥) → start_line line ≡ None
  unfolding start_line
  start-other h = simp (ne_eqb (length line) 8 h)

  pub start-bad : spells line ≡ false → start_line line ≡ None
  unfolding start_line
  start-bad f = cases (eqb (length line) 8) (λ e. simp (e, f)) (λ e. simp e)

  pub start-good : length line ≡ 8 → spells line ≡ true → start_line line ≡ Some (seq_of (number_at (spelt line) 0))
  unfolding start_line
  start-good h t = simp (eq-eqb (length line) 8 h, t)

  -- eight digits fill a buffer of four bytes
  pub start-bytes : (into left : List ℕ) (n : ℕ) → length line ≡ 8 → length left ≡ 4 → read_hex_of line (length into) ≡ Some n → left ≡ read_hex_in line into
      → left ≡ spelt line
  start-bytes into left n h l e now =
      sym (take_all n left (omega (arith, (count-says line (length into) n e).0))) ∙ counted_start line into left n e now
