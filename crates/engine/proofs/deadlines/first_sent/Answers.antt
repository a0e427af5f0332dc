-- Going round, `find` comes to the first Sent packet of those that are left.
use Rattle.std.proofs.Common.{◌≡◌, Bool, true, false, List, [], ◌∷◌, Option, Some, None, IfSome, sym, ap, ◌∙◌, rules}
use Rattle.std.specs.Fn.{CalledAt}
use Rattle.std.specs.Iterator.{Yields, YieldsFirst}
use Rattle.std.specs.List.{FoldsTo}
use denote.Param.Members.{Mut}
use denote.Ref.{Bor}
use Rattle.engine.specs.declared.state.InFlight.{InFlight}
use Rattle.engine.specs.declared.state.SentReliable.{SentReliable}
use Rattle.engine.specs.Packets.{is_sent}
use Rattle.engine.specs.InOrder.{packets_left}
use Rattle.engine.specs.Deadlines.{in_flight, first_sent}
use Rattle.engine.proofs.deadlines.first_sent.Goals as goal

-- what is kept of a packet that was found
abbrev kept : Option SentReliable → Option InFlight
kept None = None
kept (Some p) = in_flight p.status

found : {S F : Type 0} (rest : S → List SentReliable) (g : Mut F (Bor SentReliable × Unit {0}) Bool)
    → ((p : SentReliable) (b : Bool) (f f' : F) → CalledAt g f p b f' → b ≡ is_sent p.status)
    → (ps : List SentReliable) (s t u : S) (f f' : F) (r : Option SentReliable)
    → Yields (YieldsFirst rest) s ps t → YieldsFirst rest t r u → FoldsTo (λ k p q. CalledAt g k p false q) f ps f'
    → IfSome r (λ p. (h : F) × CalledAt g f' p true h) → kept r ≡ first_sent (rest s)
unfolding first_sent
found rest g says [] s t u f f' None y n z e = sym (ap first_sent (ap rest y ∙ n.0))
found rest g says [] s t u f f' (Some p) y n z e =
    let left = ap rest y ∙ n in
    let sent = sym (says p true f' e.0 e.1) in
    simp (left, sent)
found rest g says (p ∷ ps) s t u f f' r y n z e =
    let later = found rest g says ps y.0 t u z.0 f' r y.2 n z.2 e in
    let passed = sym (says p false f z.0 z.1) in
    later ∙ simp (y.1, passed)

pub returns-in_err-first : goal.returns-in_err-first
returns-in_err-first c = let r = c.in_err-first.ensures.ran in
    c.from_residual.ensures
    ∙ found packets_left _ (λ p b f h k. search rules) r.0 _ _ _ _ _ None r.2.1 r.2.2 r.3 r.4
    ∙ ap first_sent c.of.ensures

pub returns : goal.returns
returns c = let r = c.in_ok-first.ensures.ran in
    c.in_flight.ensures
    ∙ found packets_left _ (λ p b f h k. search rules) r.0 _ _ _ _ _ (Some c.in_ok-first.first) r.2.1 r.2.2 r.3 r.4
    ∙ ap first_sent c.of.ensures
