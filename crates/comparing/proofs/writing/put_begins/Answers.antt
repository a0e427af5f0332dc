-- The word is put, then the length.
use Rattle.text.specs.Put.{put_one, puts_then}
use Rattle.comparing.proofs.writing.put_begins.Goals as goal

pub returns : goal.returns
returns c = puts_then (put_one (c.put-a.ensures.value, c.put-a.ensures.out_after)) c.put_count.ensures
