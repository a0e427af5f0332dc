-- The call stands where the bytes that it used lead.
use Rattle.std.specs.Prelude.{◌≡◌, List, [], ◌∷◌, ℕ, ◌+◌, ◌-◌, eqb, length, take, drop}
use Rattle.std.proofs.Common.{refl, ◌∙◌, ap, arith}
use borrow.Table.Steps.{cases}
use Rattle.recording.specs.Lines.{until_feed, until-within}
use Rattle.replaying.specs.Feeding.{carrying, carried_count, carried_line}
use Rattle.replaying.specs.FeedLine.{fed_as, going-begins, going_step, going-all, going-full, line-open, line-ended}
use Rattle.replaying.proofs.feeding.feed.Goals as goal

pub loop-used-init : goal.loop-used-init
loop-used-init c = let a = c.args in
    (going-begins a.session a.store.now a.records.now a.line.now a.piece.now a.out.now, refl, refl)

pub overflow_sub-out : goal.overflow_sub-out
overflow_sub-out c = c.loop-used.invariant.0.fits

pub fed_as-requires : goal.fed_as-requires
fed_as-requires c = tt

pub shape_of-store-then-out-wrote-lt-LINE_TEXT : goal.shape_of-store-then-out-wrote-lt-LINE_TEXT
shape_of-store-then-out-wrote-lt-LINE_TEXT c = c.loop-used.invariant.1

pub shape_of-records-then-out-wrote-lt-LINE_TEXT : goal.shape_of-records-then-out-wrote-lt-LINE_TEXT
shape_of-records-then-out-wrote-lt-LINE_TEXT c = c.loop-used.invariant.2

pub shape_of-out-then-out-wrote-lt-LINE_TEXT : goal.shape_of-out-then-out-wrote-lt-LINE_TEXT
shape_of-out-then-out-wrote-lt-LINE_TEXT c = c.loop-used.invariant.0.sized

pub returns-then-out-wrote-lt-LINE_TEXT : goal.returns-then-out-wrote-lt-LINE_TEXT
returns-then-out-wrote-lt-LINE_TEXT c = let a = c.args in
    let l = c.loop-used in
    let k = carrying a.session a.store.now a.records.now a.line.now in
    let f = fed_as (record { replay = l.said.replay; count = l.count }) l.used l.wrote in
    let p = going-full k a.piece.now a.out.now f l.store l.records l.line l.out l.invariant.0 (omega arith) in
    record { value = c.fed_as.ensures ∙ p.0; store_after = p.1.0; records_after = p.1.1.0; line_after = p.1.1.1.0; out_after = p.1.1.1.1 }

-- the part up to the next line feed, or to the piece's end
until_take : (l : List ℕ) → take (length (until_feed l)) l ≡ until_feed l
unfolding until_feed
until_take [] = refl
until_take (b ∷ rest) = cases (eqb b 10) (λ t. simp t) (λ f. simp f (ap (λ l. b ∷ l) (until_take rest)))

module _ (piece : List ℕ) (used end : ℕ) (ends : end ≡ used + length (until_feed (drop used piece))) where
  part : take (end - used) (drop used piece) ≡ until_feed (drop used piece)
  part =
      let k : end - used ≡ length (until_feed (drop used piece)) = omega arith in
      ap (λ n. take n (drop used piece)) k ∙ until_take (drop used piece)

pub slice_bounds-gather-end : goal.slice_bounds-gather-end
slice_bounds-gather-end c = omega (arith, c.line_end-end.ensures, until-within c.args.piece.now c.loop-used.used (omega arith))

pub slice_bounds-gather-start : goal.slice_bounds-gather-start
slice_bounds-gather-start c = omega (arith, c.line_end-end.ensures)

pub fed_as-requires-then-piece-used : goal.fed_as-requires-then-piece-used
fed_as-requires-then-piece-used c = tt

pub shape_of-store-then-piece-used : goal.shape_of-store-then-piece-used
shape_of-store-then-piece-used c = c.loop-used.invariant.1

pub shape_of-records-then-piece-used : goal.shape_of-records-then-piece-used
shape_of-records-then-piece-used c = c.loop-used.invariant.2

pub shape_of-out-then-piece-used : goal.shape_of-out-then-piece-used
shape_of-out-then-piece-used c = c.loop-used.invariant.0.sized

pub returns-then-piece-used : goal.returns-then-piece-used
returns-then-piece-used c = let a = c.args in
    let l = c.loop-used in
    let k = carrying a.session a.store.now a.records.now a.line.now in
    let f = fed_as (record { replay = l.said.replay; count = l.count }) l.used l.wrote in
    let g = c.gather-count.ensures in
    let end = c.line_end-end.ensures in
    let same = part a.piece.now l.used c.line_end-end.result end in
    let e = line-open f l.store l.records l.line a.piece.now l.out (g.value ∙ ap (carried_count l.count) same) end (g.line_after ∙ ap (carried_line l.line l.count) same) c.if-piece-used.true in
    let p = going-all k a.piece.now a.out.now _ _ _ _ _ (going_step k a.piece.now a.out.now f l.store l.records l.line l.out l.invariant.0 (omega arith) e) c.if-piece-used.true in
    record { value = c.fed_as-then-piece-used.ensures ∙ p.0; store_after = p.1.0; records_after = p.1.1.0; line_after = p.1.1.1.0; out_after = p.1.1.1.1 }

pub end_line-said-requires : goal.end_line-said-requires
end_line-said-requires c = tt

pub show-wrote-requires : goal.show-wrote-requires
show-wrote-requires c = omega arith

pub overflow_add-used : goal.overflow_add-used
overflow_add-used c = omega (arith, c.if-piece-used.false, c.well_formed.1.1.1.1.0.0)

pub loop-used-smaller : goal.loop-used-smaller
loop-used-smaller c = omega (arith, c.line_end-end.ensures, c.if-piece-used.false)

pub loop-used-preserved : goal.loop-used-preserved
loop-used-preserved c = let a = c.args in
    let l = c.loop-used in
    let k = carrying a.session a.store.now a.records.now a.line.now in
    let f = fed_as (record { replay = l.said.replay; count = l.count }) l.used l.wrote in
    let g = c.gather-count.ensures in
    let end = c.line_end-end.ensures in
    let same = part a.piece.now l.used c.line_end-end.result end in
    let w = c.show-wrote.ensures in
    let e = line-ended f l.store l.records l.line a.piece.now l.out (g.value ∙ ap (carried_count l.count) same) end (g.line_after ∙ ap (carried_line l.line l.count) same) c.if-piece-used.false c.end_line-said.ensures w.value w.out_after in (
      going_step k a.piece.now a.out.now f l.store l.records l.line l.out l.invariant.0 (omega (arith, c.if-out-wrote-lt-LINE_TEXT.false)) e,
      c.end_line-said.auto.store ∙ l.invariant.1,
      c.end_line-said.auto.records ∙ l.invariant.2,
    )

pub fed_as-requires-2 : goal.fed_as-requires-2
fed_as-requires-2 c = tt

pub shape_of-store : goal.shape_of-store
shape_of-store c = c.loop-used.invariant.1

pub shape_of-records : goal.shape_of-records
shape_of-records c = c.loop-used.invariant.2

pub shape_of-out : goal.shape_of-out
shape_of-out c = c.loop-used.invariant.0.sized

pub returns : goal.returns
returns c = let a = c.args in
    let l = c.loop-used in
    let k = carrying a.session a.store.now a.records.now a.line.now in
    let f = fed_as (record { replay = l.said.replay; count = l.count }) l.used l.wrote in
    let p = going-all k a.piece.now a.out.now f l.store l.records l.line l.out l.invariant.0 c.loop-used-test.false in
    record { value = c.fed_as-2.ensures ∙ p.0; store_after = p.1.0; records_after = p.1.1.0; line_after = p.1.1.1.0; out_after = p.1.1.1.1 }
