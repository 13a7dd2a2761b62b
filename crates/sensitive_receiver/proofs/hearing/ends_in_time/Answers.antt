use Rattle.sensitive_receiver.proofs.Common.{◌≡◌, ◌∙◌, sym, true, false, not, ◌&&◌, changes, without_mean}
use Rattle.tone_tracking.specs.Correlation.{correlations}
use Rattle.sensitive_receiver.proofs.LaneLemmas.{in_time_told}
use Rattle.sensitive_receiver.proofs.hearing.ends_in_time.Goals as goal

pub returns-then-has_changed : goal.returns-then-has_changed
returns-then-has_changed c = λ x place taken last.
    let changed : true ≡ changes c.tone_before-one_before.result c.tone_before-tone.result = sym c.if-has_changed.true
    ∙ c.has_changed.ensures in
    (λ i. changed i && not (c.has_changed-then-has_changed.ensures i))
    ∙ in_time_told x c.args.number place
    c.args.ring.now.place c.delay_of-delay.result c.args.ring.now.reach
    c.tone_before-tone.result c.tone_before-one_before.result c.tone_before-two_before.result
    (c.tone_before-tone.ensures (correlations (without_mean x)) taken)
    (c.tone_before-one_before.ensures (correlations (without_mean x)) taken)
    (c.tone_before-two_before.ensures (correlations (without_mean x)) taken)
    (sym c.requires.list) last c.delay_of-delay.ensures.delay

pub returns-else-has_changed : goal.returns-else-has_changed
returns-else-has_changed c = λ x place taken last.
    let stays : false ≡ changes c.tone_before-one_before.result c.tone_before-tone.result = sym c.if-has_changed.false
    ∙ c.has_changed.ensures in
    c.if-has_changed.false
    ∙ (λ i. stays i && not (changes c.tone_before-two_before.result c.tone_before-one_before.result))
    ∙ in_time_told x c.args.number place
    c.args.ring.now.place c.delay_of-delay.result c.args.ring.now.reach
    c.tone_before-tone.result c.tone_before-one_before.result c.tone_before-two_before.result
    (c.tone_before-tone.ensures (correlations (without_mean x)) taken)
    (c.tone_before-one_before.ensures (correlations (without_mean x)) taken)
    (c.tone_before-two_before.ensures (correlations (without_mean x)) taken)
    (sym c.requires.list) last c.delay_of-delay.ensures.delay
