-- As many cells as were passed are empty, and the rest as they were.
use borrow.Author.Rules.{rules}
use Rattle.std.proofs.Common.{◌≡◌, length, set, ap, ◌∙◌, arith}
use Rattle.engine.specs.Fields.{with_tx, with_packets}
use Rattle.words.specs.Meaning.{state_of}
use Rattle.links_in_place.specs.Zeros.{packets-long, emptied, none-emptied, more-emptied, all-emptied}
use Rattle.links_in_place.proofs.fresh.put_packets.Goals as goal

pub loop-at-init : goal.loop-at-init
loop-at-init c = (c.told-words, none-emptied (state_of c.args.words.now))

pub put_packet-requires : goal.put_packet-requires
put_packet-requires c =
    (omega arith, rw c.no_packet-none.ensures (omega arith))

pub loop-at-preserved : goal.loop-at-preserved
loop-at-preserved c = let l = c.loop-at in
    let s = (state_of c.args.words.now) in
    let long : length s.tx.txed_packets ≡ 64 = packets-long c.args.words.now c.told-words in (
      search rules,
      c.put_packet.ensures
          ∙ (λ i. let t = l.invariant.1 i in with_tx t (with_packets t.tx (set t.tx.txed_packets l.at (c.no_packet-none.ensures i))))
          ∙ more-emptied s l.at (omega arith),
    )

pub returns : goal.returns
returns c = let l = c.loop-at in
    let s = (state_of c.args.words.now) in
    let all : l.at ≡ 64 = omega arith in
    l.invariant.1 ∙ ap (emptied s) all ∙ all-emptied s (packets-long c.args.words.now c.told-words)
