-- The row is changed as the call says.
use Rattle.std.specs.Prelude.{Ok}
use Rattle.std.proofs.Common.{◌≡◌, rules, sym, ap, ◌∙◌}
use Rattle.link.specs.declared.row.LinkRow.{LinkRow}
use Rattle.link.specs.Roundtrip.{ponged}
use Rattle.engine.specs.declared.state.State.{State}
use Rattle.engine.specs.Fields.{with_row, with_time}
use Rattle.engine.specs.Gates.{timed_verdict}
use Rattle.engine.specs.Links.{pong_of}
use Rattle.engine.specs.Rows.{row_of}
use Rattle.engine.specs.Sound.{row_at}
use Rattle.words.specs.Encoded.{bare}
use Rattle.words.specs.Meaning.{state_of}
use Rattle.links_in_place.specs.Changed.{done}
use Rattle.links_in_place.specs.Gated.{timed-small}
use Rattle.links_in_place.specs.RowsBare.{row-changed, bare-ponged}
use Rattle.links_in_place.proofs.links.pong.Goals as goal

pub returns : goal.returns
unfolding pong_of
returns c = let s = state_of c.args.words.now in
    let j = c.args.slot in
    let F : LinkRow → LinkRow = λ r. ponged r c.args.time in
    let e = c.change_at.ensures in
    let d = done (timed_verdict s j c.args.time (Ok tt)) c.change_at.result (with_time (with_row s j (F (row_of s j))) c.args.time) c.args.words.now c.change_at.new.words e.value
    (λ v. let k = e.words_after (e.value ∙ v) in
    let q : k.0 ≡ F (bare (row_at s j)) = let p = k.1 in search rules in
    k.2 ∙ ap (λ (x : State). with_time x c.args.time) (row-changed s j F k.0 (timed-small s j c.args.time v) (bare-ponged (row_at s j) c.args.time) q))
    (λ ne. e.left (λ v. ne (sym e.value ∙ v))) in
    record { value = d.value; words_after = d.words_after; left = d.left }
