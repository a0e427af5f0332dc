-- The first j bytes are the start of the tile.
use Rattle.std.proofs.Common.{◌≡◌, take}
use Rattle.tiles.specs.Tiles.{tile_start}
use Rattle.tiles.proofs.fill.Given as goal

abbrev pub invariant-loop-j : goal.invariant-loop-j
invariant-loop-j l = take l.j l.part ≡ tile_start l.shade l.n l.j
