-- The word is put, then the place and both bytes.
use Rattle.text.specs.Put.{put_one, puts_then}
use Rattle.comparing.proofs.writing.put_differ.Goals as goal

pub returns : goal.returns
returns c =
    puts_then (put_one (c.put-a.ensures.value, c.put-a.ensures.out_after)) (puts_then c.put_count-b.ensures (puts_then (put_one (c.put_hex-c.ensures.value, c.put_hex-c.ensures.out_after)) (puts_then (put_one (c.put-d.ensures.value, c.put-d.ensures.out_after)) (puts_then (put_one (c.put_hex-e.ensures.value, c.put_hex-e.ensures.out_after)) (put_one (c.put.ensures.value, c.put.ensures.out_after))))))
