-- The sending half's numbers after a sweep. Assumes nothing.
use Rattle.std.specs.Prelude.{◌≡◌, ℕ}
use Rattle.seq.specs.declared.Seq.{Seq}
use Rattle.engine.specs.declared.state.Sending.{Sending}
use Rattle.engine.specs.Acking.{sweep_of, swept_tx}
use Rattle.words.specs.declared.sending.SendingNumbers.{SendingNumbers}
use Rattle.words.specs.Encoded.{numbers_of}

-- how many packets are left, the last number looked at, and the bytes that still wait
abbrev pub swept_to : SendingNumbers → ℕ → Seq → ℕ → SendingNumbers
swept_to n left last held = record {
  tx_seq = n.tx_seq;
  txed_count = left;
  resend_count = n.resend_count;
  txed_unacked = n.txed_unacked;
  txed_unconsumed = n.txed_unconsumed;
  txed_unconsumable = held;
  txed_last_consumed = last;
  send_finish_sent = n.send_finish_sent;
  write_closed = n.write_closed;
}

pub swept_as : (tx : Sending) (n : SendingNumbers) (left : ℕ) (last : Seq) (held : ℕ) → n ≡ numbers_of tx → sweep_of tx ≡ record { left = left; last = last; held = held }
    → swept_to n left last held ≡ numbers_of (swept_tx tx)
unfolding swept_tx
swept_as tx n left last held same e = simp (same, e)
