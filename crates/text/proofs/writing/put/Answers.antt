-- Where there is room the run is copied to the part that it fits, and what lies about that part is not lent.
use native.Mathlib.Omega.{arith}
use mathlib.Core.Path.{sym}
use Rattle.text.specs.Put.{put_refused, put-copied}
use Rattle.text.proofs.writing.put.Goals as goal

pub returns-then-out-at : goal.returns-then-out-at
returns-then-out-at c = let r = put_refused c.args.run.now c.args.out.now c.args.at (omega arith) in record { value = sym r.0; out_after = sym r.1 }

pub returns : goal.returns
returns c =
    let r = put-copied c.args.run.now c.args.out.now c.copy_from_slice.new.self c.args.at (omega arith) c.copy_from_slice.ensures.after in
    record { value = r.0; out_after = r.1 }
