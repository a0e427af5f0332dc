-- What is left of the recording leads to the same table and the same bad line.
use Rattle.std.specs.Prelude.{◌≡◌, true, false, ◌-◌, ◌+◌, ◌<◌, ℕ, zero, suc, Option, Some, None, take, drop}
use Rattle.std.specs.Option.{option_map}
use Rattle.std.proofs.Common.{refl, sym, ◌∙◌, ap, arith, rules}
use Rattle.recording.specs.Lines.{until-within}
use Rattle.comparing.specs.declared.messages.Message.{Message}
use Rattle.comparing.specs.declared.messages.Found.{Found}
use Rattle.comparing.specs.declared.messages.Found.TheVariants as found
use Rattle.comparing.specs.Messages.{line_found, waiting_after, ends_at}
use Rattle.comparing.specs.Sanity.{SaneFound, SaneWaiting, line-sane}
use Rattle.comparing.specs.Rows.{Rising}
use Rattle.comparing.specs.Judging.{line_in}
use Rattle.comparing.specs.Table.{table_of, tabled}
use Rattle.comparing.specs.Scanning.{is_bad, entered_found, next_line, body_left, left-bad, left-next, left-none, next-after, found-rising}
use Rattle.comparing.proofs.scanning.scan_body.Goals as goal

is_good : (f : Found) → (f ≡ found.Bad → ⊥) → is_bad f ≡ false
is_good found.Bad h = absurd (h refl)
is_good (found.Awaits m) h = refl
is_good (found.Holds m) h = refl
is_good found.Passes h = refl

-- the line of a message that waits is counted from 1
waits_sane : (f : Found) → SaneFound f → SaneWaiting (waiting_after f)
waits_sane found.Bad sane = tt
waits_sane (found.Awaits m) sane = sane
waits_sane (found.Holds m) sane = tt
waits_sane found.Passes sane = tt

line_some : (line : ℕ) → 0 < line → ◌≡◌ {A = Option ℕ} (Some line) (line_in line)
line_some zero h = absurd (omega arith)
line_some (suc n) h = refl

ended : (w : Option Message) → SaneWaiting w → option_map (λ (m : Message). m.line) w ≡ line_in (ends_at w)
ended None sane = refl
ended (Some m) sane = line_some m.line sane.1

pub loop-at-init : goal.loop-at-init
unfolding Rising
loop-at-init c = record {
  counted = (omega arith, c.requires.le_from);
  rises = rw (ap (λ t. t.rows) c.requires.empty) (omega arith);
  waits = tt;
  bads = refl;
  tables = rw c.requires.empty;
}

pub slice_bounds-read_line-end : goal.slice_bounds-read_line-end
slice_bounds-read_line-end c = omega (arith, c.line_end-end.ensures, until-within c.args.input.now c.loop-at.at (omega arith))

pub returns-in-Bad : goal.returns-in-Bad
returns-in-Bad c =
    let l = c.loop-at in
    let i = l.invariant in
    let bad : is_bad (line_found l.waiting l.at l.line (take (c.line_end-end.result - l.at) (drop l.at c.args.input.now))) ≡ true =
    sym (ap is_bad c.read_line-found.ensures) ∙ ap is_bad c.in-Bad.is in
    let left = left-bad c.args.input.now c.args.start.0 (table_of l.table) l.waiting l.at l.line c.line_end-end.result c.line_end-end.ensures c.loop-at-test.true bad in
    record { starts = refl; bads = line_some l.line (omega (arith, i.counted.0)) ∙ ap line_in (left.0 ∙ i.bads); tables = left.1 ∙ i.tables }

pub loop-at-smaller : goal.loop-at-smaller
loop-at-smaller c =
    let on = next-after c.args.input.now c.loop-at.at c.line_end-end.result c.loop-at-test.true (omega (arith, c.line_end-end.ensures)) in
    omega (arith, on, c.next_line-at.ensures, c.loop-at-test.true)

pub loop-at-preserved : goal.loop-at-preserved
loop-at-preserved c =
    let l = c.loop-at in
    let i = l.invariant in
    let input = c.args.input.now in
    let start = c.args.start.0 in
    let t = table_of l.table in
    let end = c.line_end-end.result in
    let f = line_found l.waiting l.at l.line (take (end - l.at) (drop l.at input)) in
    let read : c.read_line-found.result ≡ f = c.read_line-found.ensures in
    let good : is_bad f ≡ false = sym (ap is_bad read) ∙ is_good c.read_line-found.result c.in_default.not-Bad in
    let next = left-next input start t l.waiting l.at l.line end c.line_end-end.ensures c.loop-at-test.true good in
    let on = next-after input l.at end c.loop-at-test.true (omega (arith, c.line_end-end.ensures)) in
    let waits : c.wait_after-waiting.result ≡ waiting_after f = c.wait_after-waiting.ensures ∙ ap waiting_after read in
    let place = c.next_line-at.ensures in
    let entered = c.enter_found.ensures ∙ ap (entered_found input start t) read in
    let left : body_left input c.wait_after-waiting.result c.next_line-at.result (l.line + 1) ≡ body_left input (waiting_after f) (next_line input end) (l.line + 1) =
    ap (λ w. body_left input w c.next_line-at.result (l.line + 1)) waits ∙ ap (λ n. body_left input (waiting_after f) n (l.line + 1)) place in
    record {
      counted = (omega (arith, i.counted.0), omega (arith, on, place, i.counted.1));
      rises = rw (ap (λ x. x.rows) entered) (found-rising input start t f i.rises);
      waits = rw waits (waits_sane f (line-sane l.waiting l.at l.line (take (end - l.at) (drop l.at input)) (omega (arith, i.counted.0)) i.waits));
      bads = ap (λ b. b.bad) left ∙ sym next.0 ∙ i.bads;
      tables =
          ap (λ b. tabled input start (table_of c.enter_found.new.table) b.messages) left
          ∙ ap (λ x. tabled input start x (body_left input (waiting_after f) (next_line input end) (l.line + 1)).messages) entered
          ∙ sym next.1 ∙ i.tables;
    }

pub returns : goal.returns
returns c =
    let l = c.loop-at in
    let i = l.invariant in
    let left = left-none c.args.input.now c.args.start.0 (table_of l.table) l.waiting l.at l.line c.loop-at-test.false in
    let mapped : c.map.result ≡ option_map (λ (m : Message). m.line) l.waiting = search rules in
    record { starts = refl; bads = mapped ∙ ended l.waiting i.waits ∙ ap line_in (left.0 ∙ i.bads); tables = left.1 ∙ i.tables }
