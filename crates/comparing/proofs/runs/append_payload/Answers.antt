-- By what was found: only a Data's frame has a payload, the next line's bytes.
use native.Mathlib.Omega.{arith}
use Rattle.comparing.specs.Runs.{payload_after, put-none}
use Rattle.std.proofs.Common.{inl, inr}
use Rattle.comparing.proofs.runs.append_payload.Goals as goal

pub returns-in-Awaits : goal.returns-in-Awaits
returns-in-Awaits c = record { run_after = simp (c.in-Awaits.is, c.append_line.ensures.run_after); upper_bound = c.append_line.ensures.upper_bound }

pub returns-in-Bad : goal.returns-in-Bad
returns-in-Bad c = let a = c.args in
    record {
      run_after = put-none a.run.now (payload_after a.found a.line.now) a.n (elim c.in-Bad.is [ inl e ↦ simp e | inr f ↦ elim f [ inl e ↦ simp e.1 | inr e ↦ simp e ] ]);
      upper_bound = omega arith;
    }
