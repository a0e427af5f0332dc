-- The lent stores. Document 01: "Two lent stores, sent and received, of exactly 65,536 bytes each: number n uses cell n mod 64", a
-- cell of 1,024 bytes. Assumes nothing.
use Rattle.std.specs.Prelude.{◌≡◌, ℕ, ◌+◌, ◌-◌, ◌*◌, ◌%◌, ◌≤◌, List, [], ◌++◌, length, take, drop, Ok, Err}
use Rattle.refusal.specs.Verdicts.{Verdict}
use Rattle.std.proofs.Common.{append-nil, arith, length-take, drop_of_length-le, drop-drop}
use Rattle.std.proofs.Math.Seq.{take-length}
use Rattle.engine.specs.Sizes.{DATA_BYTES}

-- "number n uses cell n mod 64", of 1,024 bytes: where the cell starts, of N cells
abbrev pub cell_start : ℕ → ℕ → ℕ
cell_start N n = n % N * DATA_BYTES

-- a store with bytes from a place on, and every other byte as it was
abbrev pub copied : List ℕ → ℕ → List ℕ → List ℕ
copied store at bytes = take at store ++ (bytes ++ drop (at + length bytes) store)

-- a refusal leaves every byte as it came
abbrev pub store_by : Verdict → List ℕ → List ℕ → List ℕ
store_by (Ok tt) old new = new
store_by (Err e) old new = old

-- ---- laws

-- what copying into the middle part leaves of the store
pub mid-copied : (store bytes new : List ℕ) (at : ℕ) → new ≡ take (length bytes) bytes ++ drop (length bytes) (take (at + length bytes - at) (drop at store))
    → take at store ++ (new ++ drop (at + length bytes - at) (drop at store)) ≡ copied store at bytes
mid-copied store bytes new at e =
    let k : at + length bytes - at ≡ length bytes = omega arith in
    let none : drop (length bytes) (take (length bytes) (drop at store)) ≡ [] =
    let h : length (take (length bytes) (drop at store)) ≤ length bytes = simp length-take (omega arith) in
    drop_of_length-le (take (length bytes) (drop at store)) h
    in
    simp (e, k, take-length, none, append-nil, drop-drop)

-- the same of a middle part that became the bytes
pub mid-same : (store bytes new : List ℕ) (at : ℕ) → new ≡ bytes → take at store ++ (new ++ drop (at + length bytes - at) (drop at store)) ≡ copied store at bytes
mid-same store bytes new at e = let k : at + length bytes - at ≡ length bytes = omega arith in simp (e, k, drop-drop)
