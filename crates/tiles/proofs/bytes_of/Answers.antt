-- The tile is filled in at the start of 1,024 zeros.
use Rattle.std.proofs.Common.{◌≡◌, List, ℕ, ◌++◌, length, take, drop, replicate, sym, ap, ◌∙◌, arith, length-take}
use Rattle.std.proofs.lemmas.List.{length-replicate}
use lib.Seq.{take_at, drop_at}
use Rattle.tiles.specs.Tiles.{tile_length, tile_start, tile}
use Rattle.tiles.specs.Laws.{length-range, start-length, padded-is}
use Rattle.tiles.proofs.bytes_of.Goals as goal

laid : (shade n len : ℕ) (zeros filled : List ℕ) → length zeros ≡ 1024 → len ≡ tile_length n → filled ≡ tile_start shade n (length (take len zeros))
    → (take (tile_length n) (filled ++ drop len zeros) ≡ tile shade n) × (drop (tile_length n) (filled ++ drop len zeros) ≡ drop (tile_length n) zeros)
unfolding tile
laid shade n len zeros filled size h e =
    let part : length (take len zeros) ≡ tile_length n = omega (arith, length-take len zeros, (length-range n).1) in
    let count : length filled ≡ len = ap length e ∙ start-length shade n (length (take len zeros)) ∙ part ∙ sym h in (
      ap (λ (k : ℕ). take k (filled ++ drop len zeros)) (sym h) ∙ take_at filled (drop len zeros) len count ∙ e ∙ ap (tile_start shade n) part,
      ap (λ (k : ℕ). drop k (filled ++ drop len zeros)) (sym h) ∙ drop_at filled (drop len zeros) len count ∙ ap (λ (k : ℕ). drop k zeros) h,
    )

pub returns : goal.returns
returns c = let a = c.args in
    let parts = laid a.shade a.n c.length-len.result (replicate {A = ℕ} 1024 0) c.fill.new.part (length-replicate {A = ℕ} 1024 0) c.length-len.ensures c.fill.ensures in
    padded-is a.shade a.n _ parts.0 parts.1
