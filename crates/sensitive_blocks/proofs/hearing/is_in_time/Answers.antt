use Rattle.sensitive_blocks.proofs.Common.{◌≡◌, ◌+◌, ◌∙◌, arith, sym, ap, true, false, not, ◌&&◌, place_for, added_places, tones}
use Rattle.tone_tracking.specs.Clock.{changes}
use Rattle.tone_tracking.specs.HeldTracker.{tone_before}
use Rattle.sensitive_blocks.proofs.MomentLemmas.{back_told, in_time_told}
use Rattle.sensitive_blocks.proofs.hearing.is_in_time.Goals as goal

pub returns-then-has_changed : goal.returns-then-has_changed
returns-then-has_changed c = λ x end at read.
    let lane = c.args.lane in
    let back = c.args.moment.now.back in
    let position = c.args.follower.now.position in
    let told = at.back lane c.requires.lane.0 c.requires.lane.1 read in
    let none : back ≡ back + 0 = omega arith in
    let changed : true ≡ changes c.tone_before-one_before.result c.tone_before-tone.result = sym c.if-has_changed.true
    ∙ c.has_changed.ensures in
    (λ i. changed i && not (c.has_changed-then-has_changed.ensures i))
    ∙ in_time_told x lane (place_for lane end) c.tone_before-tone.result c.tone_before-one_before.result
    c.tone_before-two_before.result
    (back_told x lane end position back 0 c.list_of-list.result c.tone_before-tone.result c.requires.lane.0 read told.0 told.1
    c.list_of-list.ensures (c.tone_before-tone.ensures x at.taken
    ∙ ap (λ n. tone_before (tones c.list_of-list.result x) (added_places position) n) none))
    (back_told x lane end position back 8 c.list_of-list.result c.tone_before-one_before.result c.requires.lane.0 read told.0
    told.1 c.list_of-list.ensures (c.tone_before-one_before.ensures x at.taken))
    (back_told x lane end position back 16 c.list_of-list.result c.tone_before-two_before.result c.requires.lane.0 read told.0
    told.1 c.list_of-list.ensures (c.tone_before-two_before.ensures x at.taken))

pub returns-else-has_changed : goal.returns-else-has_changed
returns-else-has_changed c = λ x end at read.
    let lane = c.args.lane in
    let back = c.args.moment.now.back in
    let position = c.args.follower.now.position in
    let told = at.back lane c.requires.lane.0 c.requires.lane.1 read in
    let none : back ≡ back + 0 = omega arith in
    let stays : false ≡ changes c.tone_before-one_before.result c.tone_before-tone.result = sym c.if-has_changed.false
    ∙ c.has_changed.ensures in
    c.if-has_changed.false
    ∙ (λ i. stays i && not (changes c.tone_before-two_before.result c.tone_before-one_before.result))
    ∙ in_time_told x lane (place_for lane end) c.tone_before-tone.result c.tone_before-one_before.result
    c.tone_before-two_before.result
    (back_told x lane end position back 0 c.list_of-list.result c.tone_before-tone.result c.requires.lane.0 read told.0 told.1
    c.list_of-list.ensures (c.tone_before-tone.ensures x at.taken
    ∙ ap (λ n. tone_before (tones c.list_of-list.result x) (added_places position) n) none))
    (back_told x lane end position back 8 c.list_of-list.result c.tone_before-one_before.result c.requires.lane.0 read told.0
    told.1 c.list_of-list.ensures (c.tone_before-one_before.ensures x at.taken))
    (back_told x lane end position back 16 c.list_of-list.result c.tone_before-two_before.result c.requires.lane.0 read told.0
    told.1 c.list_of-list.ensures (c.tone_before-two_before.ensures x at.taken))
