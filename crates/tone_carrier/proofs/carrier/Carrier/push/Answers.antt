use Rattle.std.proofs.Common.{◌≡◌, ℕ, ◌+◌, ◌%◌, ◌/◌, ℤ, List, [], ◌∷◌, ◌++◌, length, drop, w16, refl, ap, subst, ◌∙◌}
use Rattle.std.proofs.Common.{arith, rules, set}
use Rattle.std.proofs.lemmas.Int.{to_z-of_z}
use Rattle.tone_carrier.specs.Held.{HeldCarrier, StandsFor}
use Rattle.tone_carrier.proofs.CarrierLemmas.{held_of, stands_early, stands_odd, stands_more}
use Rattle.tone_carrier.proofs.carrier.Carrier.push.Goals as goal

pub returns-then-position-self-clause-stands_for : goal.returns-then-position-self-clause-stands_for
returns-then-position-self-clause-stands_for c =
    let s = c.self.inside in
    let sample = c.args.sample in
    let next = c.with_sample-recent.result in
    let is_next = c.with_sample-recent.ensures
    ∙ ap (λ z. drop 1 s.recent ++ z ∷ []) (to_z-of_z w16 sample c.ranges.sample) in
    let P : HeldCarrier → Type 0 = λ held. (begin : ℕ) (x : List ℤ) → StandsFor held begin x
    → StandsFor (held_of s.lanes s.begin (s.position + 1) next) begin (x ++ sample ∷ []) in
    subst P c.self.view_is (λ begin x h.
    stands_early s.lanes s.begin s.position begin s.recent next x sample h is_next c.if-position-self.true)

pub returns-then-position-eq1-clause-stands_for : goal.returns-then-position-eq1-clause-stands_for
returns-then-position-eq1-clause-stands_for c =
    let s = c.self.inside in
    let sample = c.args.sample in
    let next = c.with_sample-recent.result in
    let is_next = c.with_sample-recent.ensures
    ∙ ap (λ z. drop 1 s.recent ++ z ∷ []) (to_z-of_z w16 sample c.ranges.sample) in
    let P : HeldCarrier → Type 0 = λ held. (begin : ℕ) (x : List ℤ) → StandsFor held begin x
    → StandsFor (held_of s.lanes s.begin (s.position + 1) next) begin (x ++ sample ∷ []) in
    subst P c.self.view_is (λ begin x h.
    stands_odd s.lanes s.begin s.position begin s.recent next x sample h is_next c.if-position-eq1.true)

pub returns-clause-stands_for : goal.returns-clause-stands_for
returns-clause-stands_for c =
    let s = c.self.inside in
    let sample = c.args.sample in
    let next = c.with_sample-recent.result in
    let slot = (s.position + 1) % 8 / 2 in
    let four : length s.lanes ≡ 4 = search rules in
    let odd = c.if-position-eq1.false in
    let even : (s.position + 1) % 2 ≡ 0 = omega arith in
    let is_next = c.with_sample-recent.ensures
    ∙ ap (λ z. drop 1 s.recent ++ z ∷ []) (to_z-of_z w16 sample c.ranges.sample) in
    let P : HeldCarrier → Type 0 = λ held. (begin : ℕ) (x : List ℤ) → StandsFor held begin x
    → StandsFor (held_of (set s.lanes slot c.push.new.self) s.begin (s.position + 1) next) begin (x ++ sample ∷ []) in
    subst P c.self.view_is (λ begin x h.
    stands_more s.lanes s.begin s.position begin s.recent next x sample h is_next slot c.push.new.self c.of.result
    c.if-position-self.false even refl four c.of.ensures.heard
    (λ windows stands. c.push.ensures windows (stands c.index-self-position.result)))
