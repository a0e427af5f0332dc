-- By whether the table holds the number; in a sound state what waits to be consumed stays small.
use borrow.Author.Rules.{rules}
use mathlib.Core.Path.{◌≡◌, sym, ap, ◌∙◌}
use mathlib.Core.Bool.{true, false}
use Prim.Native.Nat.{◌^◌, ◌<◌}
use native.Mathlib.Omega.{arith}
use lib.ListN.{get_or}
use Rattle.engine.specs.Packets.{no_packet}
use Rattle.engine.specs.Rows.{row-of}
use Rattle.engine.specs.Sound.{row_at}
use Rattle.engine.specs.Table.{in_table, looked_at, packet_of}
use Rattle.engine.specs.Acking.{acked_row, acked_tx, ack-fits}
use Rattle.words.specs.Meaning.{state_of}
use Rattle.words.specs.Ready.{ready-sound, shaped-words}
use Rattle.links_in_place.specs.RowsBare.{bare-acked}
use Rattle.sending_in_place.specs.Table.{held_in, cell-looked}
use Rattle.sending_in_place.specs.RowsBare.{acked-bare}
use Rattle.sending_in_place.proofs.acking.settle.Goals as goal

pub returns-then-not-in_table : goal.returns-then-not-in_table
unfolding acked_row acked_tx in_table
returns-then-not-in_table c = let s = state_of c.args.words.now in
    let out : in_table s.tx c.args.seq.0 ≡ false = ap (λ n. held_in n c.args.seq.0) (sym c.tx_of-tx.ensures) ∙ sym c.in_table.ensures ∙ c.if-not-in_table.true in
    let row = row-of s c.args.slot c.requires.1 in
    record { ack_count_value = simp (out, row) (rw (c.mark_acked-row.ensures, c.row_at.ensures) (bare-acked (row_at s c.args.slot) c.args.seq.0)); words_after = simp out }

pub settle_tx-requires : goal.settle_tx-requires
unfolding in_table packet_of
settle_tx-requires c =
    let s = state_of c.args.words.now in
    let held : in_table s.tx c.args.seq.0 ≡ true = ap (λ n. held_in n c.args.seq.0) (sym c.tx_of-tx.ensures) ∙ sym c.in_table.ensures ∙ c.if-not-in_table.false in
    let u32 : c.args.seq.0 < 2 ^ 32 = omega (arith, c.well_formed) in
    let shaped = (shaped-words c.args.words.now c.requires.0.long (λ i. search rules)) in
    let fine = ready-sound c.args.words.now c.requires.0 in
    let cell : c.packet_at-p.result ≡ packet_of s.tx c.args.seq.0 = c.packet_at-p.ensures.value ∙ ap (λ n. get_or s.tx.txed_packets n no_packet) c.cell_of.ensures.value in
    let here : c.packet_at-p.result ≡ looked_at s.tx c.args.seq.0 = cell ∙ cell-looked s shaped fine c.args.seq.0 u32 held in
    (cell, rw here (ack-fits s c.args.seq.0 shaped fine u32 held), fine.packet-count)

pub returns : goal.returns
unfolding acked_row acked_tx in_table packet_of
returns c = let s = state_of c.args.words.now in
    let held : in_table s.tx c.args.seq.0 ≡ true = ap (λ n. held_in n c.args.seq.0) (sym c.tx_of-tx.ensures) ∙ sym c.in_table.ensures ∙ c.if-not-in_table.false in
    let u32 : c.args.seq.0 < 2 ^ 32 = omega (arith, c.well_formed) in
    let shaped = (shaped-words c.args.words.now c.requires.0.long (λ i. search rules)) in
    let fine = ready-sound c.args.words.now c.requires.0 in
    let cell : c.packet_at-p.result ≡ packet_of s.tx c.args.seq.0 = c.packet_at-p.ensures.value ∙ ap (λ n. get_or s.tx.txed_packets n no_packet) c.cell_of.ensures.value in
    let here : c.packet_at-p.result ≡ looked_at s.tx c.args.seq.0 = cell ∙ cell-looked s shaped fine c.args.seq.0 u32 held in
    let row = row-of s c.args.slot c.requires.1 in record { ack_count_value = simp (held, row) (rw (c.settle_row.ensures, c.mark_acked-row.ensures, c.row_at.ensures, here) (acked-bare (looked_at s.tx c.args.seq.0).status (row_at s c.args.slot).limit_increased (row_at s c.args.slot) c.args.seq.0 (looked_at s.tx c.args.seq.0).len c.args.slot c.args.time)); words_after = simp held (rw (c.settle_tx.ensures, here)) }
