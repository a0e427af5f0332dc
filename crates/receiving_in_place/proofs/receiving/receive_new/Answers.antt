-- What was accepted stays within its cell; then the three by their own promises.
use Prim.Native.Nat.{◌<◌, ◌^◌}
use native.Mathlib.Omega.{arith}
use Rattle.engine.specs.CellCount.{cell-count}
use Rattle.engine.specs.Received.{table_of}
use Rattle.engine.specs.Rows.{row-of}
use Rattle.engine.specs.Receiving.{receive-passed, storing, received_state}
use Rattle.words.specs.Meaning.{state_of}
use Rattle.words.specs.Ready.{shaped-words}
use Rattle.receiving_in_place.specs.Moves.{stored-moves}
use borrow.Author.Rules.{rules}
use Rattle.receiving_in_place.proofs.receiving.receive_new.Goals as goal

pub overflow_cast-payload : goal.overflow_cast-payload
overflow_cast-payload c = let a = c.args in
    let s = state_of a.words.now in
    let p = receive-passed s _ a.records.now a.slot a.msg a.seq.0 _ c.requires.payload_value in
    omega (arith, p.short)

pub store_message-next-requires : goal.store_message-next-requires
store_message-next-requires c = let a = c.args in
    let s = state_of a.words.now in
    let p = receive-passed s _ a.records.now a.slot a.msg a.seq.0 _ c.requires.payload_value in
    let number : a.seq.0 < 2 ^ 32 = search rules in
    let shape = shaped-words a.words.now c.told-words (λ i. search rules) in
    rw c.requires.words_len (storing s _ a.records.now a.slot a.msg a.seq.0 _ shape number p c.requires.seq_value)

pub put_received-requires : goal.put_received-requires
put_received-requires c = let a = c.args in
    let s = state_of a.words.now in
    let p = receive-passed s _ a.records.now a.slot a.msg a.seq.0 _ c.requires.payload_value in
    (p.at.small, rw (c.store_message-next.ensures.value, c.requires.words_len) (stored-moves s.rx.cells (table_of s.rx a.records.now) a.msg a.seq.0 _), rw (row-of s a.slot p.at.small) at p.room, (p.new c.requires.seq_value).told)

pub keep_bytes-requires : goal.keep_bytes-requires
keep_bytes-requires c = let a = c.args in
    let s = state_of a.words.now in
    let p = receive-passed s _ a.records.now a.slot a.msg a.seq.0 _ c.requires.payload_value in
    let count = cell-count s.rx.cells p.at.fine.cell-count in
    rw c.requires.words_len (count.some, count.few, p.stored, p.short)

pub returns : goal.returns
unfolding received_state
returns c = record { words_after = rw (c.put_received.ensures, c.store_message-next.ensures.value, c.requires.words_len); store_after = rw (c.keep_bytes.ensures, c.requires.words_len); records_after = rw (c.store_message-next.ensures.records_after, c.requires.words_len) }
