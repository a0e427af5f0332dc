-- Each difference is put in its own words.
use Rattle.text.specs.Put.{put_one}
use Rattle.comparing.proofs.writing.put_what.Goals as goal

pub returns-in-First : goal.returns-in-First
returns-in-First c = rw c.in-First.is (put_one (c.put.ensures.value, c.put.ensures.out_after))

pub returns-in-Second : goal.returns-in-Second
returns-in-Second c = rw c.in-Second.is (put_one (c.put-in-Second.ensures.value, c.put-in-Second.ensures.out_after))

pub returns-in-Differ : goal.returns-in-Differ
returns-in-Differ c = rw c.in-Differ.is c.put_differ.ensures

pub returns-in-Begins : goal.returns-in-Begins
returns-in-Begins c = rw c.in-Begins.is c.put_begins.ensures

pub returns-in-ConflictFirst : goal.returns-in-ConflictFirst
returns-in-ConflictFirst c = rw c.in-ConflictFirst.is (put_one (c.put-in-ConflictFirst.ensures.value, c.put-in-ConflictFirst.ensures.out_after))

pub returns-in-ConflictSecond : goal.returns-in-ConflictSecond
returns-in-ConflictSecond c = rw c.in-ConflictSecond.is (put_one (c.put-in-ConflictSecond.ensures.value, c.put-in-ConflictSecond.ensures.out_after))
