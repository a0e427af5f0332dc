-- Document 01, "The replay program": "It reads lower-case hexadecimal, one frame a line". A line is the list of its bytes,
-- without its line feed. Assumes nothing.
use Rattle.std.specs.Prelude.{◌≡◌, true, false, cond, ◌&&◌, List, ℕ, ◌≤◌, ◌<◌, leb, length, Result}
use Rattle.refusal.specs.declared.Refusal.{Refusal}
use Rattle.msg.specs.declared.link_msg.LinkMsg.{LinkMsg}
use Rattle.std.proofs.Common.{le-leb}
use Rattle.std.proofs.lemmas.Bool.{lt-leb}
use Rattle.text.specs.HexRun.{spells, spelt}
use Rattle.msg.specs.Reading.{read_of, bad}

-- 1,040 bytes of frame are 2,080 digits
abbrev pub MAX_LINE : ℕ
MAX_LINE = 2080

-- "A bad line, over 1,040 bytes of frame, .. gives hex 14 (refusal 20)": a longer line is not read
unfoldable pub frame_of : List ℕ → Result LinkMsg Refusal
unfolding spells spelt
frame_of line = cond (leb (length line) MAX_LINE && spells line) (read_of (spelt line)) bad

-- ---- laws

module _ (line : List ℕ) where
  -- the three cases of a frame's line
  pub frame-long : MAX_LINE < length line → frame_of line ≡ bad
  unfolding frame_of
  frame-long h = simp (lt-leb (length line) MAX_LINE h)

  pub frame-bad : length line ≤ MAX_LINE → spells line ≡ false → frame_of line ≡ bad
  unfolding frame_of
  frame-bad h f = simp (le-leb (length line) MAX_LINE h, f)

  pub frame-good : length line ≤ MAX_LINE → spells line ≡ true → frame_of line ≡ read_of (spelt line)
  unfolding frame_of
  frame-good h t = simp (le-leb (length line) MAX_LINE h, t)
