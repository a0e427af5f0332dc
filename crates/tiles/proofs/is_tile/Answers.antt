-- The first i bytes are the start of the tile.
use mathlib.Core.Path.{◌≡◌, sym, ap, ◌∙◌}
use mathlib.Core.List.{List}
use Prim.Native.Nat.{ℕ, ◌<◌}
use native.Mathlib.Omega.{arith}
use lib.Seq.{take_all}
use lib.ListN.{length, get_or}
use Rattle.tiles.specs.Tiles.{tile_length, tile_start, tile}
use Rattle.tiles.specs.Laws.{tile-at, tile-length, no_tile, tile-is}
use Rattle.tiles.proofs.is_tile.Goals as goal

pub returns-then-bytes-length : goal.returns-then-bytes-length
returns-then-bytes-length c = sym (no_tile _ _ _ (λ q. c.if-bytes-length.true (ap length q ∙ tile-length _ _ ∙ sym c.length.ensures)))

pub returns-then-found-byte : goal.returns-then-found-byte
returns-then-found-byte c = let l = c.loop-i in
    let a = c.args in
    let under : l.i < tile_length a.n = omega arith in
    sym (no_tile a.shade a.n a.bytes.now (λ q. c.if-found-byte.true (ap (λ (bytes : List ℕ). get_or bytes l.i 0) q ∙ tile-at a.shade a.n l.i under ∙ sym c.byte.ensures)))

pub returns : goal.returns
unfolding tile
returns c = let l = c.loop-i in
    let a = c.args in
    let all : l.i ≡ tile_length a.n = omega arith in
    sym (tile-is a.shade a.n a.bytes.now (sym (take_all l.i a.bytes.now (omega arith)) ∙ l.invariant.1 ∙ ap (tile_start a.shade a.n) all))
