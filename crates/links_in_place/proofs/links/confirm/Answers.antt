-- The row is changed as the call says.
use Rattle.std.proofs.Common.{◌≡◌, rules, sym, ◌∙◌}
use Rattle.link.specs.declared.row.LinkRow.{LinkRow}
use Rattle.link.specs.Row.{confirmed}
use Rattle.engine.specs.Fields.{with_row}
use Rattle.engine.specs.Gates.{slot_verdict}
use Rattle.engine.specs.Links.{confirm_of}
use Rattle.engine.specs.Rows.{row_of}
use Rattle.engine.specs.Sound.{row_at}
use Rattle.words.specs.Encoded.{bare}
use Rattle.words.specs.Meaning.{state_of}
use Rattle.links_in_place.specs.Changed.{done}
use Rattle.links_in_place.specs.Gated.{passed-small}
use Rattle.links_in_place.specs.RowsBare.{row-changed, bare-confirmed}
use Rattle.links_in_place.proofs.links.confirm.Goals as goal

pub returns : goal.returns
unfolding confirm_of
returns c = let s = state_of c.args.words.now in
    let j = c.args.slot in
    let F : LinkRow → LinkRow = λ r. confirmed r in
    let e = c.change.ensures in
    let d = done (slot_verdict s j) c.change.result (with_row s j (F (row_of s j))) c.args.words.now c.change.new.words e.value
    (λ v. let k = e.words_after (e.value ∙ v) in
    let q : k.0 ≡ F (bare (row_at s j)) = let p = k.1 in search rules in
    k.2 ∙ row-changed s j F k.0 (passed-small s j v) (bare-confirmed (row_at s j)) q)
    (λ ne. e.left (λ v. ne (sym e.value ∙ v))) in
    record { value = d.value; words_after = d.words_after; left = d.left }
