-- Reliable messages: those with a number, which are acknowledged and resent. Assumes nothing.
use Rattle.std.specs.Prelude.{◌≡◌, refl, Bool, ℕ, eqb, Some, None, Option}
use Rattle.seq.specs.declared.Seq.{Seq}
use Rattle.msg.specs.declared.link_msg.LinkMsg.{LinkMsg}
use Rattle.msg.specs.declared.link_msg.LinkMsg.TheVariants as links
use Rattle.msg.specs.declared.reliable.ReliableMsg.{ReliableMsg}
use Rattle.msg.specs.declared.reliable.ReliableMsg.TheVariants.{Data, Consumed, SendFinish, ReceiveClose, ReceiveFinish}

-- the kind bytes
abbrev pub MSG_DATA : ℕ
MSG_DATA = 7

abbrev pub MSG_CONSUMED : ℕ
MSG_CONSUMED = 9

abbrev pub MSG_SEND_FINISH : ℕ
MSG_SEND_FINISH = 10

abbrev pub MSG_RECEIVE_CLOSE : ℕ
MSG_RECEIVE_CLOSE = 11

abbrev pub MSG_RECEIVE_FINISH : ℕ
MSG_RECEIVE_FINISH = 12

abbrev pub kind_of : ReliableMsg → ℕ
kind_of Data = MSG_DATA
kind_of (Consumed n) = MSG_CONSUMED
kind_of SendFinish = MSG_SEND_FINISH
kind_of ReceiveClose = MSG_RECEIVE_CLOSE
kind_of ReceiveFinish = MSG_RECEIVE_FINISH

abbrev pub is_kind : ℕ → ReliableMsg → Bool
is_kind kind msg = eqb (kind_of msg) kind

-- what a Consumed tells; 0 for any other
abbrev pub count_of : ReliableMsg → ℕ
count_of Data = 0
count_of (Consumed n) = n
count_of SendFinish = 0
count_of ReceiveClose = 0
count_of ReceiveFinish = 0

-- the link message that carries a reliable message under a number
abbrev pub to_link : ReliableMsg → Seq → LinkMsg
to_link Data seq = links.Data seq
to_link (Consumed n) seq = links.Consumed seq n
to_link SendFinish seq = links.SendFinish seq
to_link ReceiveClose seq = links.ReceiveClose seq
to_link ReceiveFinish seq = links.ReceiveFinish seq

-- the reliable message and the number that a link message carries, where it carries one
abbrev pub from_link : LinkMsg → Option (ReliableMsg × Seq)
from_link links.Welcome = None
from_link links.Connect = None
from_link links.Accepted = None
from_link (links.Refused reason) = None
from_link links.Ping = None
from_link links.Pong = None
from_link (links.Data seq) = Some (Data, seq)
from_link (links.Ack received) = None
from_link (links.Consumed seq n) = Some ((Consumed n), seq)
from_link (links.SendFinish seq) = Some (SendFinish, seq)
from_link (links.ReceiveClose seq) = Some (ReceiveClose, seq)
from_link (links.ReceiveFinish seq) = Some (ReceiveFinish, seq)
from_link (links.TestData size) = None
from_link (links.SetBlock blocked) = None
from_link links.Goodbye = None
from_link links.Terminate = None

-- the way there and back
pub from-to : (msg : ReliableMsg) (seq : Seq) → from_link (to_link msg seq) ≡ Some (msg, seq)
from-to Data seq = refl
from-to (Consumed n) seq = refl
from-to SendFinish seq = refl
from-to ReceiveClose seq = refl
from-to ReceiveFinish seq = refl
