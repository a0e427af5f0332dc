-- What a received message leaves of the state: an ack that is put behind a slot's others, and then counted in its row; and its effect on the sending half. Assumes nothing.
use Rattle.std.specs.Prelude.{◌≡◌, true, List, ℕ, ◌+◌, ◌-◌, ◌<◌, ltb, length, set}
use Rattle.std.proofs.Common.{sym, ap, ◌∙◌, arith, lt-ltb, get_or-set_same, set-set}
use Rattle.std.proofs.Math.Bool.{or-false}
use Rattle.seq.specs.declared.Seq.{Seq}
use Rattle.link.specs.declared.row.LinkRow.{LinkRow}
use Rattle.link.specs.Row.{no_row}
use Rattle.link.specs.Acks.{ack_queued}
use Rattle.link.specs.Fields.{with_acks}
use Rattle.link.specs.Sizes.{ACKS}
use Rattle.msg.specs.declared.reliable.ReliableMsg.TheVariants.{Data}
use Rattle.engine.specs.declared.state.Sending.{Sending}
use Rattle.engine.specs.declared.state.State.{State}
use Rattle.engine.specs.Fields.{with_row, with_totals, with_ends}
use Rattle.engine.specs.Receiving.{effect_tx, repeated_state}
use Rattle.engine.specs.Sound.{row_at}
use Rattle.engine.specs.Rows.{row-of}
use Rattle.words.specs.Parts.{part, entries-length}
use Rattle.words.specs.Layout.{WORDS, row_start}
use Rattle.words.specs.Meaning.{acks_in, links_in, decoded, state_of, stated}
use Rattle.words.specs.Meaning as meaning

-- the words of a state say eight rows
eight : (w : List ℕ) → length w ≡ WORDS → length (state_of w).links ≡ 8
unfolding decoded links_in
eight w long = ap (λ (s : State). length s.links) (stated w long) ∙ entries-length (λ j. meaning.row_of (part (row_start j) 14 w) (acks_in w j)) 8

-- a state whose row has another ack, before it is counted
abbrev pub placed : State → ℕ → Seq → State
placed s slot seq = with_row s slot (with_acks (row_at s slot) (set (row_at s slot).tx_ack_queue (row_at s slot).ack_count seq) (row_at s slot).ack_count)

pub ack-counted : (w : List ℕ) (slot : ℕ) (seq : Seq) → length w ≡ WORDS → slot < 8 → (row_at (state_of w) slot).ack_count < ACKS
    → with_row (placed (state_of w) slot seq) slot (with_acks (row_at (state_of w) slot) (row_at (placed (state_of w) slot seq) slot).tx_ack_queue ((row_at (state_of w) slot).ack_count + 1)) ≡ repeated_state (state_of w) slot seq.0
unfolding repeated_state ack_queued
ack-counted w slot seq long lt room =
    let s = state_of w in
    let r = row_at s slot in
    let acks = set r.tx_ack_queue r.ack_count seq in
    let here : row_at (placed s slot seq) slot ≡ with_acks r acks r.ack_count = get_or-set_same s.links slot (with_acks r acks r.ack_count) no_row (omega (arith, eight w long)) in
    let one : ltb r.ack_count ACKS ≡ true = lt-ltb r.ack_count ACKS room in
    ap (λ (q : LinkRow). with_row (placed s slot seq) slot (with_acks r q.tx_ack_queue (r.ack_count + 1))) here
    ∙ ap (λ (l : List LinkRow). record { links = l; tx = s.tx; rx = s.rx; time = s.time; read_open = s.read_open }) (set-set s.links slot _ (with_acks r acks (r.ack_count + 1)))
    ∙ sym (rw (row-of s slot lt, one))

-- the same where the row is read once more
pub ack-counted-there : (w : List ℕ) (slot : ℕ) (seq : Seq) → length w ≡ WORDS → slot < 8 → (row_at (state_of w) slot).ack_count < ACKS
    → with_row (placed (state_of w) slot seq) slot (with_acks (row_at (placed (state_of w) slot seq) slot) (row_at (placed (state_of w) slot seq) slot).tx_ack_queue ((row_at (state_of w) slot).ack_count + 1)) ≡ repeated_state (state_of w) slot seq.0
unfolding repeated_state ack_queued
ack-counted-there w slot seq long lt room =
    let s = state_of w in
    let r = row_at s slot in
    let acks = set r.tx_ack_queue r.ack_count seq in
    let here : row_at (placed s slot seq) slot ≡ with_acks r acks r.ack_count = get_or-set_same s.links slot (with_acks r acks r.ack_count) no_row (omega (arith, eight w long)) in
    let one : ltb r.ack_count ACKS ≡ true = lt-ltb r.ack_count ACKS room in
    ap (λ (q : LinkRow). with_row (placed s slot seq) slot (with_acks q q.tx_ack_queue (r.ack_count + 1))) here
    ∙ ap (λ (l : List LinkRow). record { links = l; tx = s.tx; rx = s.rx; time = s.time; read_open = s.read_open }) (set-set s.links slot _ (with_acks r acks (r.ack_count + 1)))
    ∙ sym (rw (row-of s slot lt, one))

-- a Data has no effect on the sending half
pub data-effect : (tx : Sending) → effect_tx tx Data ≡ tx
unfolding effect_tx
data-effect tx =
    let same : tx.txed_unconsumed - 0 ≡ tx.txed_unconsumed = omega arith in
    λ i. with_ends (with_totals tx tx.txed_unacked (same i) tx.txed_unconsumable) tx.txed_last_consumed (or-false tx.send_finish_sent i) (or-false tx.write_closed i)
