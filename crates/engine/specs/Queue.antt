-- The resend queue made anew: "the queue stays oldest first". Assumes nothing.
use Rattle.std.specs.Prelude.{◌≡◌, ℕ, suc, ◌+◌, ◌≤◌, cond, List, [], ◌∷◌, ◌++◌, length, take, drop, slice_set}
use Rattle.std.proofs.Math.Path.{sym, ap, ap₂}
use Rattle.std.proofs.Common.{◌∙◌, arith, take-append-drop, length-take-le}
use mathlib.Core.List.{append-nil, append_assoc}
use Rattle.std.proofs.Math.Numerals.{add-one}
use borrow.Table.Steps.{cases}
use Rattle.std.proofs.Math.ListN.{length-set}
use Rattle.std.proofs.Math.Seq.{take-suc-set, drop-set-lt, drop-drop, take-append_seam}
use Rattle.seq.specs.declared.Seq.{Seq}
use Rattle.engine.specs.declared.state.SentReliable.{SentReliable}
use Rattle.engine.specs.declared.state.Sending.{Sending}
use Rattle.engine.specs.declared.queue.Gathered.{Gathered}
use Rattle.engine.specs.Packets.{packets, queue, is_queued, queued_of}
use Rattle.engine.specs.Sizes.{PACKETS}
use Rattle.engine.specs.Fields.{with_queue}

-- the queue lists the numbers of the ResendQueued packets, oldest first; the places past them are as they were
unfoldable pub requeued : Sending → Sending
requeued tx =
    let numbers = queued_of (packets tx) in
    with_queue tx (numbers ++ drop (length numbers) tx.resend_queue) (length numbers)

-- what the code gathers of one packet: its number behind the others, where it is queued
unfoldable pub put_in : Gathered → SentReliable → Gathered
put_in g p = cond (is_queued p.status) (record { numbers = slice_set g.numbers g.count p.seq; count = g.count + 1 }) g

-- ---- laws

-- the queue is just that list
pub requeued-queue : (tx : Sending) → queue (requeued tx) ≡ queued_of (packets tx)
unfolding requeued
requeued-queue tx = take-append_seam (queued_of (packets tx)) (drop (length (queued_of (packets tx))) tx.resend_queue)

-- what is gathered, with what the rest of the packets will add, is the whole list; behind it the old queue stands
pub record Gathering (old all : List Seq) (g : Gathered) (rest : List SentReliable) : Type 0 where
  pub front : take g.count g.numbers ++ queued_of rest ≡ all
  pub back : drop g.count g.numbers ≡ drop g.count old
  pub full : length g.numbers ≡ PACKETS
  pub room : g.count + length rest ≤ PACKETS

module _ (old all : List Seq) (g : Gathered) where
  -- a packet is put in
  pub gather-turn : (p : SentReliable) (rest : List SentReliable) → Gathering old all g (p ∷ rest) → Gathering old all (put_in g p) rest
  unfolding put_in queued_of
  gather-turn p rest h =
      cases (is_queued p.status)
      (λ q.
      let longer : take (suc g.count) (slice_set g.numbers g.count p.seq) ≡ take g.count g.numbers ++ (p.seq ∷ []) =
      take-suc-set g.numbers g.count p.seq (omega (arith, h.room, h.full)) in
      let all_same : take g.count g.numbers ++ (p.seq ∷ queued_of rest) ≡ all = simp q at h.front in
      simp q (record {
        front = rw add-one (ap (λ (l : List Seq). l ++ queued_of rest) longer ∙ append_assoc (take g.count g.numbers) (p.seq ∷ []) (queued_of rest) ∙ all_same);
        back =
            drop-set-lt (g.count + 1) g.numbers g.count p.seq (omega arith)
            ∙ sym (drop-drop 1 g.count g.numbers)
            ∙ ap (drop 1) h.back
            ∙ drop-drop 1 g.count old;
        full = length-set g.numbers g.count p.seq ∙ h.full;
        room = omega (arith, h.room);
      }))
      (λ q.
      let same : take g.count g.numbers ++ queued_of rest ≡ all = simp q at h.front in
      simp q (record { front = same; back = h.back; full = h.full; room = omega (arith, h.room) }))

  -- no packet is left
  pub gather-end : Gathering old all g [] → g ≡ record { numbers = all ++ drop (length all) old; count = length all }
  unfolding queued_of
  gather-end h =
      let whole : take g.count g.numbers ≡ all = sym (append-nil (take g.count g.numbers)) ∙ h.front in
      let long : g.count ≡ length all = sym (length-take-le g.count g.numbers (omega (arith, h.room, h.full))) ∙ ap length whole in
      ap₂ (λ (n : List Seq) (c : ℕ). record { numbers = n; count = c })
      (sym (take-append-drop g.count g.numbers) ∙ ap₂ (λ (a b : List Seq). a ++ b) whole (h.back ∙ ap (λ n. drop n old) long))
      long
