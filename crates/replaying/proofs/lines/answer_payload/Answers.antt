-- No payload, or received.
use mathlib.Core.Path.{◌≡◌, sym, ◌∙◌, ap}
use mathlib.Core.List.{[]}
use Prim.Native.Nat.{◌≤◌}
use lib.ListN.{length}
use lib.Seq.{length-take-le}
use lib.ListN.{take}
use Rattle.text.specs.HexRun.{spelt}
use Rattle.msg.specs.declared.reliable.ReliableMsg.TheVariants.{Data}
use Rattle.recording.specs.Payloads.{payload-says, payload-bad-says, payload-start, payload-room}
use Rattle.replaying.specs.Taking.{recorded, ended}
use Rattle.replaying.specs.Line.{received, payload-bad, payload-good, ended-left}
use borrow.Author.Rules.{rules}
use Rattle.replaying.proofs.lines.answer_payload.Goals as goal

pub returns-in_default : goal.returns-in_default
returns-in_default c = let a = c.args in
    let h = recorded a.s a.records.now in
    let end = c.end_frame.ensures in
    let f = payload-bad-says a.line.now [] (sym c.read_payload.ensures.value ∙ c.in_default.is) in
    ended-left 20 h a.store.now (end.value ∙ ap (λ n. ended n h) c.number.ensures) end.records_after ∙ sym (payload-bad h a.store.now a.seq a.line.now f)

pub slice_bounds-bytes-end : goal.slice_bounds-bytes-end
slice_bounds-bytes-end c = let read = c.read_payload in
    rw read.ensures.into_after (payload-room _ _ _ (search rules) (sym read.ensures.value ∙ c.in-Some.is))

pub slice_bounds-receive_frame-end : goal.slice_bounds-receive_frame-end
slice_bounds-receive_frame-end c =
    let read = c.read_payload in
    let room : c.in-Some.n ≤ length read.new.into = rw read.ensures.into_after (payload-room _ _ _ (search rules) (sym read.ensures.value ∙ c.in-Some.is)) in
    sym (length-take-le _ _ room)

pub returns : goal.returns
returns c = let a = c.args in
    let h = recorded a.s a.records.now in
    let read = c.read_payload in
    let said = sym read.ensures.value ∙ c.in-Some.is in
    let t = (payload-says a.line.now [] _ said).2 in
    let bytes : take c.in-Some.n read.new.into ≡ spelt a.line.now = rw read.ensures.into_after (payload-start _ _ _ (search rules) said) in
    c.receive_frame.ensures ∙ ap (received h a.store.now Data a.seq) bytes ∙ sym (payload-good h a.store.now a.seq a.line.now t)
