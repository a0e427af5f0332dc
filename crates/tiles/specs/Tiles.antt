-- What the bytes of a tile are: the shade that the map shows, the tile's number, and a pattern that no two tiles share.
use Rattle.std.specs.Prelude.{Bool, true, false, cond, ◌&&◌, List, [], ◌∷◌, ◌++◌, ℕ, zero, suc, ◌+◌, ◌-◌, ◌*◌, ◌/◌, ◌%◌, eqb, replicate}

-- Tile n has 3 to 1,024 bytes.
unfoldable pub tile_length : ℕ → ℕ
tile_length n = 3 + n * 89 % 1022

-- Byte j of tile n.
unfoldable pub tile_byte : ℕ → ℕ → ℕ → ℕ
tile_byte shade n j =
    cond (eqb j 0)
    shade
    (cond (eqb j 1)
    (n / 256 % 256)
    (cond (eqb j 2)
    (n % 256)
    ((n * 31 + j * 7 + j / 16) % 256)))

-- The first k bytes of tile n.
unfoldable pub tile_start : ℕ → ℕ → ℕ → List ℕ
tile_start shade n zero = []
tile_start shade n (suc k) = tile_start shade n k ++ (tile_byte shade n k ∷ [])

unfoldable pub tile : ℕ → ℕ → List ℕ
tile shade n = tile_start shade n (tile_length n)

-- Tile n in 1,024 bytes: its own, and zeros behind them.
unfoldable pub tile_padded : ℕ → ℕ → List ℕ
unfolding tile
tile_padded shade n = tile shade n ++ replicate (1024 - tile_length n) 0

-- As many bytes, each the same.
unfoldable pub same_bytes : List ℕ → List ℕ → Bool
same_bytes [] [] = true
same_bytes [] (y ∷ ys) = false
same_bytes (x ∷ xs) [] = false
same_bytes (x ∷ xs) (y ∷ ys) = eqb x y && same_bytes xs ys

-- These bytes are tile n, all of it and nothing else.
unfoldable pub is_tile : ℕ → ℕ → List ℕ → Bool
unfolding same_bytes tile
is_tile shade n bytes = same_bytes bytes (tile shade n)
