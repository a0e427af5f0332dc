-- By the engine's own verdict, then by the length of the words.
use mathlib.Core.Path.{refl, sym, ◌∙◌}
use borrow.Author.Tests.{eq-eqb, ne_eqb}
use lib.ListN.{length}
use Rattle.door.specs.Fresh.{gate-passed, gate-refused}
use Rattle.door.proofs.state.fk_fresh.Goals as goal

pub returns-in_default : goal.returns-in_default
returns-in_default c = let g = gate-passed c.args.recv_buffer c.args.cells (length c.args.records.now) (length c.args.words.now) (sym c.fresh_verdict-verdict.ensures ∙ c.in-Ok.is) in simp (g, ne_eqb _ _ c.in_default.ensures.cases) record { value = refl; words_after = refl; records_after = refl; left = λ ne. refl }

pub returns-in-Err : goal.returns-in-Err
returns-in-Err c = let g = gate-refused c.args.recv_buffer c.args.cells (length c.args.records.now) (length c.args.words.now) _ (sym c.fresh_verdict-verdict.ensures ∙ c.in-Err.is) in simp g record { value = c.refused.ensures; words_after = refl; records_after = refl; left = λ ne. refl }

pub returns-in-Some : goal.returns-in-Some
returns-in-Some c = let g = gate-passed c.args.recv_buffer c.args.cells (length c.args.records.now) (length c.args.words.now) (sym c.fresh_verdict-verdict.ensures ∙ c.in-Ok.is) in simp (g, eq-eqb _ _ c.in-Some.ensures.cases.long) record { value = refl; words_after = c.put_fresh.ensures; records_after = c.empty_records.ensures; left = λ ne. absurd (ne refl) }
