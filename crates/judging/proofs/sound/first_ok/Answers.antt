-- An empty table, or the tag in the third word of the first packet.
use Rattle.std.proofs.Common.{◌≡◌, ◌%◌, false, not, eqb, get_or, sym, ap, ◌∙◌, arith, eq-eqb, ne_eqb}
use Rattle.seq.specs.declared.Seq.{Seq}
use Rattle.engine.specs.Packets.{no_packet, is_received}
use Rattle.words.specs.Meaning.{state_of}
use Rattle.engine.specs.Found.{first_ok}
use Rattle.judging.specs.Words.{tag_read}
use Rattle.judging.proofs.sound.first_ok.Goals as goal

pub returns-then-count-eq0 : goal.returns-then-count-eq0
unfolding first_ok
returns-then-count-eq0 c = let e = c.requires.0 in simp (← e, eq-eqb _ _ c.if-count-eq0.true)

pub returns : goal.returns
unfolding first_ok
returns c =
    let tx = (state_of c.args.words.now).tx in
    let tag = tag_read c.args.words.now c.told-words (c.args.first.0 % 64) (omega arith) in
    let some : eqb tx.txed_count 0 ≡ false = ap (λ n. eqb n 0) (sym c.requires.0) ∙ ne_eqb _ _ c.if-count-eq0.false in
    simp some (ap not (sym tag) ∙ ap (λ (n : Seq). not (is_received (get_or tx.txed_packets (n.0 % 64) no_packet).status)) c.requires.1)
