-- The numbers of each side are put, then those that are equal.
use Rattle.text.specs.Put.{put_one, puts_then}
use Rattle.comparing.proofs.writing.put_sides.Goals as goal

pub returns : goal.returns
returns c =
    rw c.equal_in.ensures at (puts_then (put_one (c.put-a.ensures.value, c.put-a.ensures.out_after)) (puts_then c.put_count-b.ensures (puts_then c.put_count-c.ensures c.put_count.ensures)))
