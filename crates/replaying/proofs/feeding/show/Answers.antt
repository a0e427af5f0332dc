-- By whether the answer is a line: its text is put where there is room for it.
use mathlib.Core.Path.{sym, ◌∙◌, ap}
use Prim.Native.Nat.{◌+◌}
use lib.ListN.{length}
use Rattle.text.specs.Put.{put_end, put_in}
use Rattle.replaying.specs.Writing.{text_of}
use Rattle.replaying.specs.Feeding.{said_by}
use Rattle.replaying.specs.FeedLine.{put-nothing, put-room}
use Rattle.replaying.proofs.feeding.show.Goals as goal

pub slice_bounds-put-end : goal.slice_bounds-put-end
unfolding text_of
slice_bounds-put-end c = sym (ap length c.write_line.ensures)

pub returns-in-None : goal.returns-in-None
returns-in-None c = let a = c.args in
    let nothing = put-nothing a.out.now a.at in
    let e = c.in-None.is in
    record { value = nothing.0 ∙ sym (ap (λ x. a.at + length (said_by x)) e); out_after = nothing.1 ∙ sym (ap (λ x. put_in (said_by x) a.out.now a.at) e) }

pub returns-in-Some : goal.returns-in-Some
unfolding text_of
returns-in-Some c = let a = c.args in
    let p = c.put in
    let t = c.write_line.ensures in
    let e = c.in-Some.is in record { value = p.ensures.value ∙ ap (λ r. put_end r a.out.now a.at) t ∙ put-room _ a.out.now a.at c.requires ∙ sym (ap (λ x. a.at + length (said_by x)) e); out_after = p.ensures.out_after ∙ ap (λ r. put_in r a.out.now a.at) t ∙ sym (ap (λ x. put_in (said_by x) a.out.now a.at) e) }
