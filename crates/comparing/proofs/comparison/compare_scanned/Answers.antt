-- A refusal, or the list.
use Rattle.std.specs.Prelude.{Ok}
use Rattle.std.proofs.Common.{sym, ◌∙◌, arith}
use Rattle.std.proofs.lemmas.Result.{err_from_is_err_and}
use Rattle.comparing.specs.Comparison.{judged-same, passed, list-stands, compared-by}
use Rattle.comparing.proofs.comparison.compare_scanned.Goals as goal

pub returns-in_err-judge : goal.returns-in_err-judge
returns-in_err-judge c =
    let a = c.args in
    let same = judged-same a.first.now a.second.now a.a a.x.now a.b a.y.now c.requires.scanning c.requires.scanning_2 in
    let whole = compared-by a.first.now a.second.now a.list.now _ (sym same ∙ sym c.judge.ensures ∙ c.in_err-judge.was) in
    let p = err_from_is_err_and c.from_residual.result c.from_residual.ensures.1 in
    rw (p.1, p.2) (record { value = whole.0; list_after = whole.1 })

pub list_all-n-requires : goal.list_all-n-requires
list_all-n-requires c =
    let a = c.args in
    let pass = sym c.judge.ensures ∙ c.in_ok-judge.was in
    let known = passed a.first.now a.second.now a.a a.x.now a.b a.y.now c.requires.scanning c.requires.scanning_2 pass in
    record {
      a_len = (c.deref.ensures.1, c.deref-2.ensures.1, c.requires.list_len);
      rising = (rw c.deref.ensures.0 known.rising-first, rw c.deref-2.ensures.0 known.rising-second);
      says = rw (c.deref.ensures.0, c.deref-2.ensures.0) known.says;
    }

pub returns : goal.returns
returns c =
    let a = c.args in
    let pass = sym c.judge.ensures ∙ c.in_ok-judge.was in
    let same = judged-same a.first.now a.second.now a.a a.x.now a.b a.y.now c.requires.scanning c.requires.scanning_2 in
    let known = passed a.first.now a.second.now a.a a.x.now a.b a.y.now c.requires.scanning c.requires.scanning_2 pass in
    let by = compared-by a.first.now a.second.now a.list.now (Ok tt) (sym same ∙ pass) in
    let list = list-stands a.first.now a.second.now a.list.now _ a.a.start.0 c.list_all-n.result c.requires.scanning.starts (omega (arith, c.requires.list_len, c.list_all-n.ensures.upper_bound)) c.list_all-n.ensures.pushed in
    record { value = rw (list.0, c.len.ensures.value, c.len-2.ensures.value, known.count-first, known.count-second) by.0; list_after = list.1 ∙ by.1 }
