-- The head and the version byte decide; what follows them is not looked at.
use Rattle.std.proofs.Common.{arith}
use Rattle.std.proofs.lemmas.Grind.{common_steps}
use Rattle.msg.proofs.Opening.{starts_opens}
use Rattle.msg.specs.Reading.{magic, read_handshake}
use Rattle.msg.proofs.reading.handshake.Goals as goal

pub returns-in_err-refuse_unless : goal.returns-in_err-refuse_unless
unfolding read_handshake
returns-in_err-refuse_unless c = grind (arith, common_steps, starts_opens magic c.args.body.now)

pub returns : goal.returns
unfolding read_handshake
returns c = grind (arith, common_steps, starts_opens magic c.args.body.now)
