-- Request [4]: "With the reader closed, messages are still received, acked and taken as before." What follows from `alike` over every call of the list.
use Rattle.std.specs.Prelude.{◌≡◌, refl, ◌≢◌, Bool, false, List, [], ◌∷◌, ℕ, length, Ok, Err}
use Rattle.engine.specs.Held.{HandOut}
use Rattle.refusal.specs.Verdicts.{Verdict}
use Rattle.std.proofs.Common.{sym, ◌∙◌}
use Rattle.std.proofs.Math.Path.{ap}
use Rattle.refusal.specs.Answers.{told_by}
use Rattle.engine.specs.HandingOut.{hand_out_by, part_as, place_as, showing_of, shown_of, shown_at}
use Rattle.engine.specs.Fields.{with_reader}
use Rattle.laws.specs.Calls.{Call, Show, Due, Close, Holding, table, verdict, values, told, next}
use Rattle.laws.specs.Passed.{left_passed, left-refused}
use Rattle.laws.specs.SoundKept.{after}
use Rattle.laws.specs.Reader.{reading, alike}

module _ (c : Call) (h : Holding) (reads : Bool) where
  -- "as before": no answer goes by the reader but whether a Consumed is due
  pub reader-told : c ≢ Due → told c (reading reads h) ≡ told c h
  reader-told ne = let a = alike c h reads in ap (λ v. told_by v (values c (reading reads h))) a.0 ∙ ap (told_by (verdict c h)) (a.1.0 ne)

  -- a call on a state with its reader closed leaves what it leaves of the open one, with the reader closed; but for the closing call, the other way round too
  pub reader-left : (c ≡ Close → reads ≡ false) → next c (reading reads h) ≡ reading reads (next c h)
  reader-left shut = go (verdict c h) refl
    where
      go : (v : Verdict) → verdict c h ≡ v → next c (reading reads h) ≡ reading reads (next c h)
      go (Ok tt) e = left_passed c (reading reads h) ((alike c h reads).0 ∙ e) ∙ (alike c h reads).1.1 shut ∙ ap (reading reads) (sym (left_passed c h e))
      go (Err r) e = left-refused c (reading reads h) r ((alike c h reads).0 ∙ e) ∙ ap (reading reads) (sym (left-refused c h r e))

-- what is shown, and where it lies
module _ (h : Holding) (reads : Bool) where
  showing-reading : showing_of (with_reader h.state reads) (length h.received) h.records ≡ showing_of h.state (length h.received) h.records
  unfolding showing_of
  showing-reading = ap (λ v. hand_out_by v (table h)) (alike Show h reads).0

  pub reader-shown : shown_of (with_reader h.state reads) h.received h.records ≡ shown_of h.state h.received h.records
  unfolding shown_of
  reader-shown = ap (λ (a : HandOut). part_as h.state.rx.cells a h.received) showing-reading

  pub reader-shown-at : (at : ℕ × ℕ) → shown_at (with_reader h.state reads) (length h.received) h.records at ≡ shown_at h.state (length h.received) h.records at
  unfolding shown_at
  reader-shown-at at = ap (λ (a : HandOut). place_as h.state.rx.cells a at) showing-reading

-- "for good": only the closing call changes whether the reader is open ..
abbrev is_open : Holding → Bool
is_open h = h.state.read_open

pub reader-kept : (c : Call) (h : Holding) → c ≢ Close → (next c h).state.read_open ≡ h.state.read_open
reader-kept c h ne = ap is_open (reader-left c h (is_open h) (λ e. absurd (ne e)))

-- .. and no call opens one that has closed, in whatever order they come
pub reader-closed : (cs : List Call) (h : Holding) → h.state.read_open ≡ false → (after cs h).state.read_open ≡ false
unfolding after
reader-closed [] h e = e
reader-closed (c ∷ cs) h e =
    let shut : h ≡ reading false h = ap (λ b. reading b h) e in
    reader-closed cs (next c h) (ap (λ k. is_open (next c k)) shut ∙ ap is_open (reader-left c h false (λ u. refl)))
