-- Whatever the steps that are left give, with those taken they are steps of the whole table.
use Rattle.std.proofs.Common.{◌≡◌, ◌-◌, ◌<◌, ◌≤◌, List}
use Rattle.std.specs.List.{AllZip}
use Rattle.engine.specs.declared.state.SentReliable.{SentReliable}
use Rattle.engine.specs.Ring.{window, refilled}
use Rattle.engine.specs.Packets.{no_packet, packets}
use Rattle.engine.specs.Table.{with_table}
use Rattle.engine.specs.Fields.{with_packets}
use Rattle.engine.specs.Sizes.{PACKETS}
use Rattle.engine.proofs.table.with_each.Given as goal

abbrev pub invariant-loop : goal.invariant-loop
invariant-loop g l =
    (l.at < PACKETS)
    × (l.end ≤ PACKETS)
    × ((qs : List SentReliable) → AllZip (goal.F-post g l.step) (window PACKETS no_packet l.out.txed_packets l.at (l.end - l.counter)) qs
    → (ps : List SentReliable) × AllZip (goal.F-post g l.step) (packets l.fn.tx) ps × (with_packets l.out (refilled PACKETS l.out.txed_packets l.at qs) ≡ with_table l.fn.tx ps))
