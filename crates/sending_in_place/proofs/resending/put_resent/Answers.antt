-- The row, the packet, the queue and the time, each by its own promise.
use borrow.Author.Rules.{rules}
use mathlib.Core.Path.{◌≡◌, sym, ap, ◌∙◌}
use mathlib.Core.Bool.{true}
use Prim.Native.Nat.{◌+◌, ◌^◌, ◌<◌}
use native.Mathlib.Omega.{arith}
use lib.ListN.{set}
use Rattle.link.specs.declared.row.LinkRow.{LinkRow}
use Rattle.engine.specs.declared.state.SentReliable.{SentReliable}
use Rattle.engine.specs.declared.state.SentReliableStatus.TheVariants.{Sent}
use Rattle.engine.specs.Sound.{row_at}
use Rattle.engine.specs.Rows.{row_of, row-of}
use Rattle.engine.specs.Fields.{with_parts, new_flight, with_status}
use Rattle.engine.specs.Table.{looked_at, with_packet}
use Rattle.engine.specs.InTable.{packet-short}
use Rattle.engine.specs.Queue.{requeued}
use Rattle.engine.specs.Resending.{resent_state, resend-passed, resend-fits}
use Rattle.words.specs.Meaning.{state_of}
use Rattle.words.specs.Encoded.{bare}
use Rattle.words.specs.Ready.{shaped-words}
use Rattle.sending_in_place.specs.RowsBare.{resent-bare}
use Rattle.sending_in_place.proofs.resending.put_resent.Goals as goal

pub row_at-row-requires : goal.row_at-row-requires
row_at-row-requires c =
    let u32 : c.args.seq.0 < 2 ^ 32 = omega (arith, c.well_formed) in
    let shaped = (shaped-words c.args.words.now c.requires.0.long (λ i. search rules)) in
    let p = resend-passed (state_of c.args.words.now) c.args.slot c.args.time c.args.seq.0 shaped u32 c.requires.1 in
    p.timed.at.small

pub overflow_add-row : goal.overflow_add-row
overflow_add-row c =
    let s = state_of c.args.words.now in
    let u32 : c.args.seq.0 < 2 ^ 32 = omega (arith, c.well_formed) in
    let shaped = (shaped-words c.args.words.now c.requires.0.long (λ i. search rules)) in
    let p = resend-passed s c.args.slot c.args.time c.args.seq.0 shaped u32 c.requires.1 in
    let fits = resend-fits s c.args.slot c.args.time c.args.seq.0 shaped u32 c.requires.1 in
    let row : c.row_at-row.result.txed_unacked_data ≡ (row_of s c.args.slot).txed_unacked_data = ap (λ (r : LinkRow). r.txed_unacked_data) (c.row_at-row.ensures ∙ ap bare (sym (row-of s c.args.slot p.timed.at.small))) in
    let len : c.args.p.len ≡ (looked_at s.tx c.args.seq.0).len = ap (λ (x : SentReliable). x.len) c.requires.2 in
    omega (arith, fits, row, len)

pub put_row-requires : goal.put_row-requires
put_row-requires c =
    let u32 : c.args.seq.0 < 2 ^ 32 = omega (arith, c.well_formed) in
    let shaped = (shaped-words c.args.words.now c.requires.0.long (λ i. search rules)) in
    let p = resend-passed (state_of c.args.words.now) c.args.slot c.args.time c.args.seq.0 shaped u32 c.requires.1 in
    p.timed.at.small

pub put_packet-requires : goal.put_packet-requires
put_packet-requires c =
    let s = state_of c.args.words.now in
    let u32 : c.args.seq.0 < 2 ^ 32 = omega (arith, c.well_formed) in
    let shaped = (shaped-words c.args.words.now c.requires.0.long (λ i. search rules)) in
    let p = resend-passed s c.args.slot c.args.time c.args.seq.0 shaped u32 c.requires.1 in
    (c.cell_of.ensures.upper_bound, rw (c.with_status-next.ensures, c.requires.2) (omega (arith, packet-short s shaped p.timed.at.fine c.args.seq.0 u32 p.held)))

pub requeue-requires : goal.requeue-requires
requeue-requires c =
    let u32 : c.args.seq.0 < 2 ^ 32 = omega (arith, c.well_formed) in
    let shaped = (shaped-words c.args.words.now c.requires.0.long (λ i. search rules)) in
    let p = resend-passed (state_of c.args.words.now) c.args.slot c.args.time c.args.seq.0 shaped u32 c.requires.1 in
    rw (c.put_packet.ensures, c.put_row.ensures) p.timed.at.fine.packet-count

pub returns : goal.returns
unfolding resent_state with_packet
returns c =
    let s = state_of c.args.words.now in
    let u32 : c.args.seq.0 < 2 ^ 32 = omega (arith, c.well_formed) in
    let shaped = (shaped-words c.args.words.now c.requires.0.long (λ i. search rules)) in
    let p = resend-passed s c.args.slot c.args.time c.args.seq.0 shaped u32 c.requires.1 in
    let row = row-of s c.args.slot p.timed.at.small in
    rw (c.put_time.ensures, c.requeue.ensures, c.put_packet.ensures, c.put_row.ensures)
    (rw (c.with_unacked-grown.ensures, c.mark_resent-marked.ensures, c.with_status-next.ensures, c.new-flight.ensures, c.cell_of.ensures.value, c.row_at-row.ensures, c.requires.2, row)
    (ap (λ (R : LinkRow). with_parts s (set s.links c.args.slot R) (requeued (with_packet s.tx c.args.seq.0 (with_status (looked_at s.tx c.args.seq.0) (Sent (new_flight c.args.time c.args.slot (row_at s c.args.slot).link_id true))))) s.rx c.args.time)
    (resent-bare (row_at s c.args.slot).limit_increased (row_at s c.args.slot) c.args.seq.0 ((row_at s c.args.slot).txed_unacked_data + (looked_at s.tx c.args.seq.0).len))))
