use Rattle.hf_sensitive.proofs.Common.{sym, ◌∙◌, true, true≢false, on_ok_weaker, lane_tones}
use Rattle.hf_sensitive.proofs.HearLemmas.{not_read, not_heard, reads_tone, ends_none, no_frame, some_frame}
use Rattle.hf_sensitive.proofs.added_frame.hear.Goals as goal

pub returns-then-not-reads-clause-read : goal.returns-then-not-reads-clause-read
returns-then-not-reads-clause-read c = λ x last is h.
    not_read x c.args.reading.place c.args.reading.lane c.args.lane.now (sym is ∙ c.if-not-reads.true) h

pub returns-then-not-reads-clause-found : goal.returns-then-not-reads-clause-found
returns-then-not-reads-clause-found c = λ x last is h.
    not_heard x c.args.reading.place c.args.reading.lane c.args.found.now.items (sym is ∙ c.if-not-reads.true)

pub returns-then-not-push-clause-read : goal.returns-then-not-push-clause-read
returns-then-not-push-clause-read c = λ x last is h.
    reads_tone c.args.tones.now x c.args.reading.place c.args.reading.lane c.delay_of.result c.args.lane.now c.push.new.self
    c.tone_before-tone.result last c.requires.bank (sym is ∙ c.if-not-reads.false) c.tone_before-tone.ensures
    c.delay_of.ensures.delay h c.push.ensures.stands_for

pub returns-then-not-push-clause-found : goal.returns-then-not-push-clause-found
returns-then-not-push-clause-found c = λ x last is h.
    no_frame x c.args.reading.place c.args.reading.lane c.args.found.now.items
    (ends_none c.args.tones.now x c.args.reading.place c.args.reading.lane c.delay_of.result c.args.lane.now c.push.new.self
    c.tone_before-tone.result last c.requires.bank (sym is ∙ c.if-not-reads.false) c.tone_before-tone.ensures
    c.delay_of.ensures.delay h
    (λ o ends. true≢false (sym (c.push.ensures.frame (lane_tones x c.args.reading.lane c.args.reading.place) o h ends).0
    ∙ c.if-not-push.true)))

pub returns-clause-read : goal.returns-clause-read
returns-clause-read c = λ x last is h.
    reads_tone c.args.tones.now x c.args.reading.place c.args.reading.lane c.delay_of.result c.args.lane.now c.push.new.self
    c.tone_before-tone.result last c.requires.bank (sym is ∙ c.if-not-reads.false) c.tone_before-tone.ensures
    c.delay_of.ensures.delay h c.push.ensures.stands_for

pub returns-clause-found : goal.returns-clause-found
returns-clause-found c =
    on_ok_weaker c.add_frame.result (λ found x last is h.
    let tones = lane_tones x c.args.reading.lane c.args.reading.place in
    found x last is
    (some_frame c.args.tones.now x c.args.reading.place c.args.reading.lane c.delay_of.result c.args.lane.now
    c.push.new.self c.tone_before-tone.result last c.requires.bank (sym is ∙ c.if-not-reads.false)
    c.tone_before-tone.ensures c.delay_of.ensures.delay h
    (c.push.ensures.heard tones h c.if-not-push.false) (λ o ends. (c.push.ensures.frame tones o h ends).1)))
    c.add_frame.ensures.found
