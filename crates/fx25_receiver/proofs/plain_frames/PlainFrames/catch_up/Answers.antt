use Rattle.fx25_receiver.proofs.Common.{◌≡◌, ℕ, [], ◌∷◌, ◌++◌, ◌∙◌, Bool, List, EndsFrame}
use Rattle.fx25_receiver.proofs.Common.{false, true, drop, refl, subst, sym, ap, arith, ◌-◌}
use Rattle.hdlc_framer.specs.BitOrder.{low_bits}
use Rattle.hdlc_framer.specs.Events.{EventAt}
use Rattle.hdlc_framer.specs.declared.event.Event.TheVariants.{Frame}
use Rattle.hdlc_framer.specs.Held.{HoldsFrame, StandsFor as DeframerStandsFor}
use Rattle.fx25_receiver.specs.Held.{HeldFrames}
use Rattle.hdlc_framer.proofs.DeframerLemmas.{frame_by_test}
use Rattle.hdlc_framer.proofs.FrameTests.{test_of_frame}
use Rattle.hdlc_framer.proofs.LateLemmas.{all_but_last, late_all}
use Rattle.hdlc_framer.specs.Late.{StandsFor}
use Rattle.fx25_receiver.proofs.plain_frames.PlainFrames.catch_up.Goals as goal

module _ (c : goal.After-eq) where
  kept_waiting : c.self.inside.waiting ≡ c.args.self.now.waiting
  kept_waiting = ap (λ (h : HeldFrames). h.waiting) c.self.view_is

  module _ (b : List Bool) (s : StandsFor c.self.inside.deframer c.args.last c.self.inside.waiting b) where
    -- the bits but the last, which the deframer has then taken
    before : List Bool
    before = s.taken ++ drop (8 - c.self.inside.waiting) (low_bits 7 c.args.last)

    all : b ≡ before ++ false ∷ []
    unfolding before
    all = all_but_last c.self.inside.deframer c.args.last c.self.inside.waiting _ b
        (omega (arith, c.requires.some, kept_waiting)) (omega arith) refl c.requires.flag s

    stands : DeframerStandsFor c.push_bits.new.deframer before
    unfolding before
    stands = c.push_bits.ensures s.taken s.deframer_stands

pub returns-clause-stands_for : goal.returns-clause-stands_for
returns-clause-stands_for c =
    let P : HeldFrames → Type 0 = λ old. (b : List Bool) → StandsFor old.deframer c.args.last old.waiting b
    → StandsFor c.push.new.self c.args.last 0 b in
    subst P c.self.view_is (λ b s.
    late_all c.push.new.self c.args.last b
    (subst (DeframerStandsFor c.push.new.self) (sym (all c b s)) (c.push.ensures.stands_for (before c b s) (stands c b s)))
    s.last_is)

pub returns-clause-holds : goal.returns-clause-holds
returns-clause-holds c = λ e.
    c.push.ensures.holds (sym (frame_by_test c.push.result (sym c.eq.ensures ∙ e)))

pub returns-clause-heard : goal.returns-clause-heard
returns-clause-heard c =
    let P : HeldFrames → Type 0 = λ old. (b : List Bool) → StandsFor old.deframer c.args.last old.waiting b
    → c.eq.result ≡ true → (octets : List ℕ) × EndsFrame b octets in
    subst P c.self.view_is (λ b s e.
    subst (λ bits. EventAt bits Frame) (sym (all c b s))
    (subst (EventAt (before c b s ++ false ∷ [])) (sym (frame_by_test c.push.result (sym c.eq.ensures ∙ e)))
    (c.push.ensures.event (before c b s) (stands c b s))))

pub returns-clause-frame : goal.returns-clause-frame
returns-clause-frame c =
    let P : HeldFrames → Type 0 = λ old. (b : List Bool) (octets : List ℕ)
    → StandsFor old.deframer c.args.last old.waiting b → EndsFrame b octets
    → (c.eq.result ≡ true) × HoldsFrame c.push.new.self octets in
    subst P c.self.view_is (λ b octets s ends.
    let last : EndsFrame (before c b s ++ false ∷ []) octets = subst (λ bits. EndsFrame bits octets) (all c b s) ends in (
      c.eq.ensures ∙ test_of_frame (before c b s) false c.push.result octets
          (c.push.ensures.event (before c b s) (stands c b s)) last,
      c.push.ensures.frame (before c b s) octets (stands c b s) last,
    ))
