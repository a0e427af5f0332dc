-- Each side's word is put.
use Rattle.text.specs.Put.{put_one}
use Rattle.comparing.proofs.writing.put_side.Goals as goal

pub returns-in-First : goal.returns-in-First
returns-in-First c = rw c.in-First.is (put_one (c.put.ensures.value, c.put.ensures.out_after))

pub returns-in-Second : goal.returns-in-Second
returns-in-Second c = rw c.in-Second.is (put_one (c.put-in-Second.ensures.value, c.put-in-Second.ensures.out_after))
