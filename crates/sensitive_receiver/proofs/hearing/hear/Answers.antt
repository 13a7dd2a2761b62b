use Rattle.sensitive_receiver.proofs.Common.{sym, ◌∙◌, true≢false, on_ok_weaker, lane_tones}
use Rattle.sensitive_receiver.proofs.HearLemmas.{reads_tone, no_frame, some_frame}
use Rattle.sensitive_receiver.proofs.hearing.hear.Goals as goal

pub returns-then-not-push-clause-read : goal.returns-then-not-push-clause-read
returns-then-not-push-clause-read c = λ x last h.
    reads_tone c.args.ring.now c.args.number c.args.place x c.args.lane.now c.push.new.self
    c.tone_before-tone.result c.args.delay last c.requires.list
    c.tone_before-tone.ensures c.requires.delay h c.push.ensures.stands_for

pub returns-clause-read : goal.returns-clause-read
returns-clause-read c = λ x last h.
    reads_tone c.args.ring.now c.args.number c.args.place x c.args.lane.now c.push.new.self
    c.tone_before-tone.result c.args.delay last c.requires.list
    c.tone_before-tone.ensures c.requires.delay h c.push.ensures.stands_for

pub returns-then-not-push-clause-found : goal.returns-then-not-push-clause-found
returns-then-not-push-clause-found c = λ x last h.
    no_frame c.args.ring.now c.args.number c.args.place x c.args.lane.now c.push.new.self
    c.tone_before-tone.result c.args.delay last c.requires.list
    c.tone_before-tone.ensures c.requires.delay h c.args.found.now.items
    (λ o ends. true≢false (sym (c.push.ensures.frame (lane_tones x c.args.number c.args.place) o h ends).0
    ∙ c.if-not-push.true))

pub returns-clause-found : goal.returns-clause-found
returns-clause-found c =
    on_ok_weaker c.add_frame.result (λ found x last h.
    let tones = lane_tones x c.args.number c.args.place in
    found x last
    (some_frame c.args.ring.now c.args.number c.args.place x c.args.lane.now c.push.new.self
    c.tone_before-tone.result c.args.delay last c.requires.list
    c.tone_before-tone.ensures c.requires.delay h
    (c.push.ensures.heard tones h c.if-not-push.false) (λ o ends. (c.push.ensures.frame tones o h ends).1)))
    c.add_frame.ensures.found
