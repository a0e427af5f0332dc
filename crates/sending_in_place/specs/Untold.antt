-- What most messages leave as it is: a Data tells of nothing that was taken, and none but a SendFinish ends sending. Assumes nothing.
use Rattle.std.specs.Prelude.{◌≡◌, true, false, ◌||◌, ◌-◌}
use Rattle.std.proofs.Common.{ap, arith}
use Rattle.std.proofs.Math.Bool.{or-true, or-false}
use Rattle.msg.specs.declared.reliable.ReliableMsg.{ReliableMsg}
use Rattle.msg.specs.declared.reliable.ReliableMsg.TheVariants.{Data}
use Rattle.msg.specs.Reliable.{is_kind, MSG_SEND_FINISH}
use Rattle.engine.specs.declared.state.Receiving.{Receiving}
use Rattle.engine.specs.declared.state.Sending.{Sending}
use Rattle.engine.specs.Fields.{with_ends, with_bytes}
use Rattle.engine.specs.Sending.{told_rx}

-- whether sending has ended, once the message was sent
abbrev pub finished_tx : Sending → ReliableMsg → Sending
finished_tx tx msg = with_ends tx tx.txed_last_consumed (tx.send_finish_sent || is_kind MSG_SEND_FINISH msg) tx.write_closed

module _ (tx : Sending) (msg : ReliableMsg) where
  pub finishes : is_kind MSG_SEND_FINISH msg ≡ true → with_ends tx tx.txed_last_consumed true tx.write_closed ≡ finished_tx tx msg
  finishes e = rw (e, or-true tx.send_finish_sent)

  pub goes_on : is_kind MSG_SEND_FINISH msg ≡ false → tx ≡ finished_tx tx msg
  goes_on e = rw (e, or-false tx.send_finish_sent)

pub data-untold : (rx : Receiving) → told_rx rx Data ≡ rx
unfolding told_rx
data-untold rx =
    let same : rx.rxed_reliable_consumed - 0 ≡ rx.rxed_reliable_consumed = omega arith in
    ap (with_bytes rx rx.rxed_reliable_size) same
