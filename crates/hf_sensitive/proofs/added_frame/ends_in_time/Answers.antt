use Rattle.hf_sensitive.proofs.Common.{◌≡◌, ◌∙◌, sym, true, false, not, ◌&&◌, changes, places_in}
use Rattle.hf_sensitive.proofs.LaneLemmas.{in_time_told}
use Rattle.hf_sensitive.proofs.added_frame.ends_in_time.Goals as goal

pub returns-then-has_changed : goal.returns-then-has_changed
returns-then-has_changed c = λ x place last.
    let changed : true ≡ changes c.tone_before-one_before.result c.tone_before-tone.result = sym c.if-has_changed.true
    ∙ c.has_changed.ensures in
    (λ i. changed i && not (c.has_changed-then-has_changed.ensures i))
    ∙ in_time_told x c.args.lane c.args.tones.now.bank place
    (places_in c.args.tones.now.count) c.delay_of-delay.result
    c.tone_before-tone.result c.tone_before-one_before.result c.tone_before-two_before.result
    (c.tone_before-tone.ensures x last.taken) (c.tone_before-one_before.ensures x last.taken)
    (c.tone_before-two_before.ensures x last.taken)
    c.requires.bank last.last c.delay_of-delay.ensures.delay

pub returns-else-has_changed : goal.returns-else-has_changed
returns-else-has_changed c = λ x place last.
    let stays : false ≡ changes c.tone_before-one_before.result c.tone_before-tone.result = sym c.if-has_changed.false
    ∙ c.has_changed.ensures in
    c.if-has_changed.false
    ∙ (λ i. stays i && not (changes c.tone_before-two_before.result c.tone_before-one_before.result))
    ∙ in_time_told x c.args.lane c.args.tones.now.bank place
    (places_in c.args.tones.now.count) c.delay_of-delay.result
    c.tone_before-tone.result c.tone_before-one_before.result c.tone_before-two_before.result
    (c.tone_before-tone.ensures x last.taken) (c.tone_before-one_before.ensures x last.taken)
    (c.tone_before-two_before.ensures x last.taken)
    c.requires.bank last.last c.delay_of-delay.ensures.delay
