use Rattle.hf_modem.proofs.Common.{◌≡◌, ◌∙◌, List, ℤ, [], ◌∷◌, ◌++◌, FitsSigned, to_z, of_z, ap, sym, subst, true≢false}
use Rattle.hf_modem.proofs.Common.{to_z-of_z, w16, bits, SlicerStandsFor, last_window, tone_of}
use Rattle.hf_modem.specs.Held.{HeldSlicer}
use Rattle.hf_modem.proofs.SlicerLemmas.{stands_within, no_bit, stands_last, one_bit}
use Rattle.hf_modem.proofs.slicer.HfSlicer.push.Goals as goal

-- a sample as it is passed
passed : (recent now : List ℤ) (sample : ℤ) → FitsSigned w16 sample
    → ((x : List ℤ) → recent ≡ last_window x → now ≡ last_window (x ++ to_z w16 (of_z w16 sample) ∷ []))
    → (x : List ℤ) → recent ≡ last_window x → now ≡ last_window (x ++ sample ∷ [])
passed recent now sample fits push x is = push x is ∙ ap (λ z. last_window (x ++ z ∷ [])) (to_z-of_z w16 sample fits)

pub returns-then-not-ends_window-clause-stands_for : goal.returns-then-not-ends_window-clause-stands_for
returns-then-not-ends_window-clause-stands_for c = λ x h.
    let s = c.self.inside in
    let stood = subst (λ (held : HeldSlicer). SlicerStandsFor held x) (sym c.self.view_is) h in
    stands_within s.offset s.position s.recent c.push.new.self s.line x c.args.sample
    (passed s.recent c.push.new.self c.args.sample c.ranges.sample c.push.ensures) stood
    (λ ends. true≢false (sym (c.ends_window.ensures.1 ends) ∙ c.if-not-ends_window.true))

pub returns-then-not-ends_window-clause-bits : goal.returns-then-not-ends_window-clause-bits
returns-then-not-ends_window-clause-bits c =
    let s = c.self.inside in
    let P : HeldSlicer → Type 0 = λ held. (x : List ℤ) → SlicerStandsFor held x
    → bits held.offset (x ++ c.args.sample ∷ []) ≡ bits held.offset x ++ [] in
    subst P c.self.view_is (λ x h.
    no_bit s.offset s.position s.recent c.push.new.self s.line x c.args.sample
    (passed s.recent c.push.new.self c.args.sample c.ranges.sample c.push.ensures) h
    (λ ends. true≢false (sym (c.ends_window.ensures.1 ends) ∙ c.if-not-ends_window.true)))

pub returns-clause-stands_for : goal.returns-clause-stands_for
returns-clause-stands_for c = λ x h.
    let s = c.self.inside in
    let stood = subst (λ (held : HeldSlicer). SlicerStandsFor held x) (sym c.self.view_is) h in
    stands_last s.offset s.position s.recent c.push.new.self s.line x c.args.sample
    (passed s.recent c.push.new.self c.args.sample c.ranges.sample c.push.ensures) stood
    (c.ends_window.ensures.0 c.if-not-ends_window.false) c.step.new.self (c.step.ensures.tone ∙ c.hf_decide.ensures
    ∙ ap tone_of c.window.ensures)

pub returns-clause-bits : goal.returns-clause-bits
returns-clause-bits c =
    let s = c.self.inside in
    let P : HeldSlicer → Type 0 = λ held. (x : List ℤ) → SlicerStandsFor held x
    → bits held.offset (x ++ c.args.sample ∷ []) ≡ bits held.offset x ++ c.step.result ∷ [] in
    subst P c.self.view_is (λ x h.
    one_bit s.offset s.position s.recent c.push.new.self s.line x c.args.sample
    (passed s.recent c.push.new.self c.args.sample c.ranges.sample c.push.ensures) h
    (c.ends_window.ensures.0 c.if-not-ends_window.false) c.hf_decide.result (c.hf_decide.ensures
    ∙ ap tone_of c.window.ensures)
    c.step.result (c.step.ensures.bits _ h.before))
