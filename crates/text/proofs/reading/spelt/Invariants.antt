-- What is left of the word, behind the number read so far, gives the answer of the whole word.
use Rattle.std.proofs.Common.{◌≡◌, ◌≤◌, drop}
use Rattle.text.specs.Decimal.{read_from}
use Rattle.text.proofs.reading.spelt.Given as goal

abbrev pub invariant-loop-byte : goal.invariant-loop-byte
invariant-loop-byte l = (l.n ≤ l.limit) × (read_from l.n (drop l.byte-index l.word) l.limit ≡ read_from 0 l.word l.limit)
