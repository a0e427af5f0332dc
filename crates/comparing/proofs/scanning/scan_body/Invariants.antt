-- What is left of the recording leads to the same table and the same bad line.
use Rattle.std.specs.Prelude.{None}
use Rattle.std.proofs.Common.{◌≡◌, ◌-◌, ◌≤◌, length}
use Rattle.comparing.specs.Rows.{Rising}
use Rattle.comparing.specs.Sanity.{SaneWaiting}
use Rattle.comparing.specs.Table.{no_numbers, table_of, tabled}
use Rattle.comparing.specs.Scanning.{body_left}
use Rattle.comparing.proofs.scanning.scan_body.Given as goal

abbrev pub invariant-loop-at : goal.invariant-loop-at
invariant-loop-at l = record {
  counted : (2 ≤ l.line) × (l.line ≤ l.at);
  rises : Rising 0 l.table.rows.items;
  waits : SaneWaiting l.waiting;
  bads : (body_left l.input l.waiting l.at l.line).bad ≡ (body_left l.input None l.from 2).bad;
  tables : tabled l.input l.start.0 (table_of l.table) (body_left l.input l.waiting l.at l.line).messages ≡ tabled l.input l.start.0 no_numbers (body_left l.input None l.from 2).messages;
}

abbrev pub decreases-loop-at : goal.decreases-loop-at
decreases-loop-at l = length l.input - l.at
