-- The counts of all kinds are put one behind the other.
use Rattle.text.specs.Put.{puts_then}
use Rattle.comparing.proofs.writing.put_kinds.Goals as goal

pub returns : goal.returns
returns c =
    puts_then c.put_kind-a.ensures (puts_then c.put_kind-b.ensures (puts_then c.put_kind-c.ensures (puts_then c.put_kind-d.ensures (puts_then c.put_kind-e.ensures c.put_kind.ensures))))
