-- The pattern is as long as its size says.
use Rattle.std.proofs.Common.{arith}
use Rattle.std.proofs.lemmas.Grind.{common_steps}
use Rattle.msg.specs.RoundTrip.{length-pattern}
use Rattle.msg.specs.Writing.{write_of, buffer_of}
use Rattle.msg.proofs.writing.test_data.Goals as goal

pub returns-then-buffer-size-clause-value : goal.returns-then-buffer-size-clause-value
unfolding write_of
returns-then-buffer-size-clause-value c = grind (arith, common_steps, length-pattern c.args.size)

pub returns-then-buffer-size-clause-buffer_after : goal.returns-then-buffer-size-clause-buffer_after
unfolding buffer_of
returns-then-buffer-size-clause-buffer_after c = grind (arith, common_steps, length-pattern c.args.size)
