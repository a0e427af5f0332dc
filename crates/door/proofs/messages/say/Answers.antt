-- By the message.
use mathlib.Core.Path.{◌∙◌}
use Rattle.door.proofs.messages.say.Goals as goal

pub returns-in-Welcome : goal.returns-in-Welcome
returns-in-Welcome c = simp c.in-Welcome.is c.say_kind.ensures

pub returns-in-Connect : goal.returns-in-Connect
returns-in-Connect c = simp c.in-Connect.is c.say_kind-in-Connect.ensures

pub returns-in-Accepted : goal.returns-in-Accepted
returns-in-Accepted c = simp c.in-Accepted.is c.say_kind-in-Accepted.ensures

pub returns-in-Refused : goal.returns-in-Refused
returns-in-Refused c = c.say_one.ensures ∙ simp (c.in-Refused.is, c.reason_number.ensures)

pub returns-in-Ping : goal.returns-in-Ping
returns-in-Ping c = simp c.in-Ping.is c.say_kind-in-Ping.ensures

pub returns-in-Pong : goal.returns-in-Pong
returns-in-Pong c = simp c.in-Pong.is c.say_kind-in-Pong.ensures

pub returns-in-Data : goal.returns-in-Data
returns-in-Data c = c.say_one-in-Data.ensures ∙ simp (c.in-Data.is, c.word.ensures)

pub returns-in-Ack : goal.returns-in-Ack
returns-in-Ack c = c.say_one-in-Ack.ensures ∙ simp (c.in-Ack.is, c.word-in-Ack.ensures)

pub returns-in-Consumed : goal.returns-in-Consumed
returns-in-Consumed c = c.say_two.ensures ∙ simp (c.in-Consumed.is, c.word-in-Consumed.ensures)

pub returns-in-SendFinish : goal.returns-in-SendFinish
returns-in-SendFinish c = c.say_one-in-SendFinish.ensures ∙ simp (c.in-SendFinish.is, c.word-in-SendFinish.ensures)

pub returns-in-ReceiveClose : goal.returns-in-ReceiveClose
returns-in-ReceiveClose c = c.say_one-in-ReceiveClose.ensures ∙ simp (c.in-ReceiveClose.is, c.word-in-ReceiveClose.ensures)

pub returns-in-ReceiveFinish : goal.returns-in-ReceiveFinish
returns-in-ReceiveFinish c = c.say_one-in-ReceiveFinish.ensures ∙ simp (c.in-ReceiveFinish.is, c.word-in-ReceiveFinish.ensures)

pub returns-in-TestData : goal.returns-in-TestData
returns-in-TestData c = simp c.in-TestData.is c.say_one-in-TestData.ensures

pub returns-in-SetBlock : goal.returns-in-SetBlock
returns-in-SetBlock c = c.say_one-in-SetBlock.ensures ∙ simp (c.in-SetBlock.is, c.block_number.ensures)

pub returns-in-Goodbye : goal.returns-in-Goodbye
returns-in-Goodbye c = simp c.in-Goodbye.is c.say_kind-in-Goodbye.ensures

pub returns-in-Terminate : goal.returns-in-Terminate
returns-in-Terminate c = simp c.in-Terminate.is c.say_kind-in-Terminate.ensures
