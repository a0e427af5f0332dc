-- The cell lies within the store.
use mathlib.Core.Path.{ap, ◌∙◌}
use Prim.Native.Nat.{◌*◌}
use native.Mathlib.Nat.{mod-lt}
use native.Mathlib.Omega.{arith}
use Rattle.engine.specs.Sizes.{DATA_BYTES}
use Rattle.engine.specs.Stores.{copied, mid-copied}
use Rattle.receiving_in_place.proofs.receiving.keep_bytes.Goals as goal

pub overflow_mul-start : goal.overflow_mul-start
overflow_mul-start c = omega (arith, c.cell_at-start.ensures, mod-lt c.args.seq.0 c.requires.0)

pub overflow_add-end : goal.overflow_add-end
overflow_add-end c = omega (arith, c.cell_at-start.ensures, mod-lt c.args.seq.0 c.requires.0)

pub slice_bounds-copy-end : goal.slice_bounds-copy-end
slice_bounds-copy-end c = omega (arith, c.cell_at-start.ensures, mod-lt c.args.seq.0 c.requires.0)

pub returns : goal.returns
returns c = let a = c.args in
    mid-copied a.store.now a.payload.now _ (c.cell_at-start.result * DATA_BYTES) c.copy.ensures
    ∙ ap (λ k. copied a.store.now (k * DATA_BYTES) a.payload.now) c.cell_at-start.ensures
