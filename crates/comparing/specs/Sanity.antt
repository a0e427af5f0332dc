-- The messages of a recording have numbers of 32 bits and lines that are counted from 1, and its start number has 32 bits. Assumes
-- nothing.
use Rattle.std.specs.Prelude.{Bool, true, false, cond, ◌&&◌, List, [], ◌∷◌, ℕ, ◌+◌, ◌^◌, ◌<◌, eqb, leb, length, Some, None, Option, Ok, Err, Result}
use Rattle.refusal.specs.declared.Refusal.{Refusal}
use Rattle.seq.specs.declared.Seq.{Seq}
use Rattle.std.proofs.Common.{arith}
use borrow.Table.Steps.{cases}
use Rattle.msg.specs.declared.link_msg.LinkMsg.{LinkMsg}
use Rattle.msg.specs.declared.link_msg.LinkMsg.TheVariants as links
use Rattle.msg.specs.declared.reliable.ReliableMsg.{ReliableMsg}
use Rattle.msg.specs.declared.reliable.ReliableMsg.TheVariants as reliable
use Rattle.msg.specs.Reading.{bad, read_of}
use Rattle.msg.specs.RoundTrip.{Ranged}
use Rattle.msg.specs.Encoding.{Bytes, Answers, answers, number_small}
use Rattle.msg.specs.Reliable.{from_link}
use Rattle.text.specs.HexRun.{spells, spelt}
use Rattle.recording.specs.Lines.{lines_of}
use Rattle.recording.specs.Frames.{frame_of}
use Rattle.recording.specs.Payloads.{is_payload}
use Rattle.comparing.specs.declared.messages.Message.{Message}
use Rattle.comparing.specs.declared.messages.Found.{Found}
use Rattle.comparing.specs.declared.messages.Found.TheVariants as found
use Rattle.comparing.specs.Messages.{start_line, start_in, start_of, found_reliable, found_carried, found_reading, found_payload, line_found, Body, body_as, body_from, body_after, body_in, body_of, spelt-small}
use Rattle.comparing.specs.Says.{Sane}

-- ---- what a frame reads as: the number that it carries, if any, is of 32 bits

abbrev SmallCarried : Option (ReliableMsg × Seq) → Type 0
SmallCarried (Some (msg, seq)) = seq.0 < 2 ^ 32
SmallCarried None = Unit {0}

abbrev SmallRead : Result LinkMsg Refusal → Type 0
SmallRead (Ok msg) = SmallCarried (from_link msg)
SmallRead (Err e) = Unit {0}

carried-small : (msg : LinkMsg) → Ranged msg → SmallCarried (from_link msg)
carried-small links.Welcome small = tt
carried-small links.Connect small = tt
carried-small links.Accepted small = tt
carried-small (links.Refused reason) small = tt
carried-small links.Ping small = tt
carried-small links.Pong small = tt
carried-small (links.Data seq) small = small
carried-small (links.Ack received) small = tt
carried-small (links.Consumed seq consumed) small = small.0
carried-small (links.SendFinish seq) small = small
carried-small (links.ReceiveClose seq) small = small
carried-small (links.ReceiveFinish seq) small = small
carried-small (links.TestData size) small = tt
carried-small (links.SetBlock blocked) small = tt
carried-small links.Goodbye small = tt
carried-small links.Terminate small = tt

answer-small : (bytes : List ℕ) (r : Result LinkMsg Refusal) → Answers bytes r → Bytes bytes → SmallRead r
answer-small bytes (Ok msg) says small = carried-small msg (says small).0
answer-small bytes (Err e) says small = tt

either : (b : Bool) (x : Result LinkMsg Refusal) → SmallRead x → SmallRead (cond b x bad)
either true x small = small
either false x small = tt

frame_small : (line : List ℕ) → SmallRead (frame_of line)
unfolding frame_of
frame_small line = either (leb (length line) 2080 && spells line) (read_of (spelt line)) (answer-small (spelt line) (read_of (spelt line)) (answers (spelt line)) (spelt-small line))

-- ---- the messages of the lines

abbrev pub SaneMessage : Message → Type 0
SaneMessage m = (m.number.0 < 2 ^ 32) × (0 < m.line)

abbrev pub SaneFound : Found → Type 0
SaneFound found.Bad = Unit {0}
SaneFound (found.Awaits m) = SaneMessage m
SaneFound (found.Holds m) = SaneMessage m
SaneFound found.Passes = Unit {0}

abbrev pub SaneWaiting : Option Message → Type 0
SaneWaiting None = Unit {0}
SaneWaiting (Some m) = SaneMessage m

reliable-sane : (msg : ReliableMsg) (m : Message) → SaneMessage m → SaneFound (found_reliable msg m)
reliable-sane reliable.Data m sane = sane
reliable-sane (reliable.Consumed n) m sane = sane
reliable-sane reliable.SendFinish m sane = sane
reliable-sane reliable.ReceiveClose m sane = sane
reliable-sane reliable.ReceiveFinish m sane = sane

module _ (at line : ℕ) (counted : 0 < line) where
  carried-sane : (carried : Option (ReliableMsg × Seq)) → SmallCarried carried → SaneFound (found_carried carried at line)
  carried-sane (Some (msg, seq)) small = reliable-sane msg (record { number = seq; at = at; line = line }) (small, counted)
  carried-sane None small = tt

  reading-sane : (reading : Result LinkMsg Refusal) → SmallRead reading → SaneFound (found_reading reading at line)
  reading-sane (Ok msg) small = carried-sane (from_link msg) small
  reading-sane (Err e) small = tt

payload-sane : (b : Bool) (m : Message) → SaneMessage m → SaneFound (found_payload b m)
payload-sane true m sane = sane
payload-sane false m sane = tt

pub line-sane : (w : Option Message) (at line : ℕ) (text : List ℕ) → 0 < line → SaneWaiting w → SaneFound (line_found w at line text)
unfolding line_found
line-sane None at line text counted sane = reading-sane at line counted (frame_of text) (frame_small text)
line-sane (Some m) at line text counted sane = payload-sane (is_payload text) m sane

found-sane : (f : Found) (line : ℕ) (rest : Option Message → Body) → SaneFound f → ((w : Option Message) → SaneWaiting w → Sane (rest w).messages) → Sane (body_as f line rest).messages
unfolding Sane
found-sane found.Bad line rest sane later = tt
found-sane (found.Awaits m) line rest sane later = later (Some m) sane
found-sane (found.Holds m) line rest sane later = (sane, later None tt)
found-sane found.Passes line rest sane later = later None tt

from-sane : (w : Option Message) (at line : ℕ) (lines : List (List ℕ)) → 0 < line → SaneWaiting w → Sane (body_from w at line lines).messages
unfolding body_from Sane
from-sane w at line [] counted sane = tt
from-sane w at line (text ∷ rest) counted sane =
    found-sane (line_found w at line text) line (λ v. body_from v (at + length text + 1) (line + 1) rest) (line-sane w at line text counted sane)
    (λ v waits. from-sane v (at + length text + 1) (line + 1) rest (omega arith) waits)

after-sane : (s : Option Seq) (text : List ℕ) (rest : List (List ℕ)) → Sane (body_after s text rest).messages
unfolding Sane
after-sane (Some start) text rest = from-sane None (length text + 1) 2 rest (omega arith) tt
after-sane None text rest = tt

in-sane : (lines : List (List ℕ)) → Sane (body_in lines).messages
unfolding Sane
in-sane [] = tt
in-sane (text ∷ rest) = after-sane (start_line text) text rest

pub body-sane : (input : List ℕ) → Sane (body_of input).messages
unfolding body_of
body-sane input = in-sane (lines_of input)

-- ---- the start number

start-in-small : (lines : List (List ℕ)) → start_in lines < 2 ^ 32
unfolding start_line
start-in-small [] = omega arith
start-in-small (text ∷ rest) =
    cases (eqb (length text) 8 && spells text)
    (λ t. simp t (number_small (spelt text) 0 (spelt-small text)))
    (λ f. simp f (omega arith))

pub start_small : (input : List ℕ) → start_of input < 2 ^ 32
unfolding start_of
start_small input = start-in-small (lines_of input)
