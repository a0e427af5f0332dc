-- The rows from a slot on, each with its sum, are those that the definition goes through.
use Rattle.std.proofs.Common.{◌≡◌, ℕ, zero, suc, ◌+◌, ◌<◌, ◌&&◌, List, length, get_or, drop, ap, sym, ◌∙◌, arith, rules, tests, drop-cons, drop_of_length-le}
use Rattle.std.specs.List.{list_all, zip}
use Rattle.std.proofs.lemmas.Iterator.{YieldsList-from_slice, YieldsList-from_zip}
use Rattle.std.proofs.lemmas.Iterator.Search.{all_from_yields_List}
use Rattle.link.specs.declared.row.LinkRow.{LinkRow}
use Rattle.link.specs.Row.{no_row}
use Rattle.engine.specs.Found.{row_ok, rows_from}
use Rattle.engine.proofs.sound.rows_ok.Goals as goal

module _ (links : List LinkRow) (on : List ℕ) (time : ℕ) where
  each : (j n : ℕ) → j + n ≡ length links → j + n ≡ length on → list_all (λ p. row_ok p.0 p.1 time) (zip (drop j links) (drop j on)) ≡ rows_from links on time j n
  unfolding rows_from
  each j zero h g = rw (drop_of_length-le links {i = j} (omega arith))
  each j (suc n) h g =
      let at : j < length links = omega arith in
      let bt : j < length on = omega arith in
      let next : suc j ≡ j + 1 = omega arith in
      (λ i. list_all (λ p. row_ok p.0 p.1 time) (zip (drop-cons links j no_row at i) (drop-cons on j 0 bt i)))
      ∙ ap (λ b. row_ok (get_or links j no_row) (get_or on j 0) time && b)
      (ap (λ k. list_all (λ p. row_ok p.0 p.1 time) (zip (drop k links) (drop k on))) next ∙ each (j + 1) n (omega arith) (omega arith))

pub returns : goal.returns
returns c = let a = c.args in
    let long : length a.links ≡ 8 = search rules in
    let sums : length a.on ≡ 8 = search rules in
    all_from_yields_List (λ p. row_ok p.0 p.1 a.time) c.all.new.self _ c.all.result c.all.ensures.ran (YieldsList-from_zip {s = c.zip.result} (YieldsList-from_slice {s = c.zip.result.a} a.links (cc)) (YieldsList-from_slice {s = c.zip.result.b} a.on (cc))) (λ x b q k. search (rules, tests))
    ∙ each a.links a.on a.time 0 8 (sym long) (sym sums)
