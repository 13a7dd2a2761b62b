use Rattle.tone_tracking.proofs.Common.{◌≡◌, ℤ, List, sym, subst, ◌∙◌, correlations, places_in, tone_at, tone_before}
use Rattle.tone_tracking.proofs.Common.{HeldLists, HasTaken}
use Rattle.tone_tracking.specs.Heard.{heard}
use Rattle.tone_tracking.proofs.tone_lists.ToneLists.tone_before.Goals as goal

pub returns-in-Alone : goal.returns-in-Alone
returns-in-Alone c =
    let alone = c.self.inside.alone in
    let reach = c.self.invariant.2 ∙ sym c.in-Alone.is in
    let P : HeldLists → Type 0 = λ held. (x : List ℤ) → HasTaken held x
    → c.tone_before.result ≡ tone_before (heard c.args.reach x) (places_in held.count) c.args.back in
    subst P c.self.view_is (λ x h.
    c.tone_before.ensures (correlations x) h.alone.stands_for
    ∙ (λ i. tone_before (tone_at (reach i) (correlations x)) (h.alone.place i) c.args.back))

pub returns-in-Near : goal.returns-in-Near
returns-in-Near c =
    let near = c.self.inside.near in
    let reach = c.self.invariant.3 ∙ sym c.in-Near.is in
    let P : HeldLists → Type 0 = λ held. (x : List ℤ) → HasTaken held x
    → c.tone_before-in-Near.result ≡ tone_before (heard c.args.reach x) (places_in held.count) c.args.back in
    subst P c.self.view_is (λ x h.
    c.tone_before-in-Near.ensures (correlations x) h.near.stands_for
    ∙ (λ i. tone_before (tone_at (reach i) (correlations x)) (h.near.place i) c.args.back))

pub returns-in-Far : goal.returns-in-Far
returns-in-Far c =
    let far = c.self.inside.far in
    let reach = c.self.invariant.4 ∙ sym c.in-Far.is in
    let P : HeldLists → Type 0 = λ held. (x : List ℤ) → HasTaken held x
    → c.tone_before-in-Far.result ≡ tone_before (heard c.args.reach x) (places_in held.count) c.args.back in
    subst P c.self.view_is (λ x h.
    c.tone_before-in-Far.ensures (correlations x) h.far.stands_for
    ∙ (λ i. tone_before (tone_at (reach i) (correlations x)) (h.far.place i) c.args.back))
