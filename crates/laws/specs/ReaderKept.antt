-- Whether the reader is open is nothing that Sound asks: a good state stays good with its reader open or closed. Assumes nothing.
use Rattle.std.specs.Prelude.{refl, Bool}
use Rattle.std.proofs.Common.{arith}
use Rattle.engine.specs.declared.state.State.{State}
use Rattle.engine.specs.Sound.{Sound}
use Rattle.engine.specs.Fields.{with_reader}
use Rattle.laws.specs.Good.{Good}
use Rattle.laws.specs.RowsKept.{rows_of, here-kept, links-sound, links-shaped}

module _ (s : State) (reads : Bool) where
  pub read-sound : Sound s → Sound (with_reader s reads)
  read-sound sound =
      links-sound s s.links s.time reads sound (omega arith) sound.time-within (rows_of s sound) sound.identities
      (λ st. here-kept s (with_reader s reads) st (λ j l live. (live, refl)))

  pub read-good : Good s → Good (with_reader s reads)
  read-good good = record {
    shaped = links-shaped s s.links s.time reads (record { full = good.shaped.links-full; queues = good.shaped.queues }) good.shaped.time-u64 good.shaped;
    sound = read-sound good.sound;
  }
