-- The first i bytes are the start of the tile.
use Rattle.std.proofs.Common.{◌≡◌, take, length}
use Rattle.tiles.specs.Tiles.{tile_length, tile_start}
use Rattle.tiles.proofs.is_tile.Given as goal

abbrev pub invariant-loop-i : goal.invariant-loop-i
invariant-loop-i l = (length l.bytes ≡ tile_length l.n) × (take l.i l.bytes ≡ tile_start l.shade l.n l.i)
