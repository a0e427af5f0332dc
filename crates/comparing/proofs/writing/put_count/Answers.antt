-- The number is put, then what stands behind it.
use Rattle.text.specs.Put.{put_one, puts_then}
use Rattle.comparing.proofs.writing.put_count.Goals as goal

pub returns : goal.returns
returns c = puts_then (put_one (c.put_decimal-a.ensures.value, c.put_decimal-a.ensures.out_after)) (put_one (c.put.ensures.value, c.put.ensures.out_after))
