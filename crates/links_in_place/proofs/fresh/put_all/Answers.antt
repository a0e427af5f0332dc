-- Over words that are all 0, all that is not.
use mathlib.Core.Path.{ap, ◌∙◌}
use mathlib.Core.Bool.{true}
use mathlib.Core.List.{List}
use Prim.Native.Nat.{ℕ}
use lib.ListN.{length, replicate}
use Rattle.engine.specs.Fields.{with_tx, with_rx, with_reader, with_packets}
use Rattle.engine.specs.Packets.{no_packet}
use Rattle.engine.specs.Sizes.{PACKETS}
use Rattle.words.specs.Encoded.{with_counts}
use Rattle.words.specs.Meaning.{state_of}
use Rattle.links_in_place.specs.Zeros.{fresh-put}
use Rattle.links_in_place.proofs.fresh.put_all.Goals as goal

pub returns : goal.returns
returns c = let a = c.args in
    let N = length a.words.now in
    let s1 = c.put_packets.ensures ∙ ap (λ (w : List ℕ). let s = state_of w in with_tx s (with_packets s.tx (replicate PACKETS no_packet))) c.empty_records.ensures in
    let s2 = c.put_tx.ensures ∙ (λ i. let s = s1 i in with_tx s (with_counts s.tx (c.fresh_numbers.ensures i))) in
    let s3 = c.put_rx.ensures ∙ (λ i. with_rx (s2 i) (c.fresh_rx.ensures i)) in
    c.put_read_open.ensures ∙ ap (λ s. with_reader s true) s3 ∙ fresh-put N c.told-words a.start a.recv_buffer a.cells
