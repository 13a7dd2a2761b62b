use Rattle.sensitive_blocks.proofs.Common.{◌≡◌, ℕ, ℤ, ◌+◌, ◌++◌, List, [], ◌∷◌, sym, subst, ◌∙◌, ap, true, false}
use Rattle.sensitive_blocks.proofs.Common.{Bool, EndsFrame, HeldLane, LaneHasRead, Tone, bits_of, ends, lane_bits, lane_certainties, lane_tones, reads, tone_for}
use Rattle.sensitive_blocks.proofs.Common.{window_to}
use Rattle.std.proofs.lemmas.Result.{on_ok_weaker}
use Rattle.fx25_receiver.specs.Certainty.{certainty}
use Rattle.sensitive_blocks.proofs.BitLemmas.{certainties-not, certainties-read, ends-not, ends-read, tones-not, tones-read}
use Rattle.sensitive_blocks.proofs.TakenLemmas.{taken_silent}
use Rattle.sensitive_blocks.proofs.hearing.hear.Goals as goal

-- a lane with no bit more
stays : (lane : HeldLane) (x : List ℤ) (number end : ℕ) → reads x number end ≡ false
    → LaneHasRead lane (lane_tones x number end) (lane_certainties x number end) (ends x number end)
    → LaneHasRead lane (lane_tones x number (end + 1)) (lane_certainties x number (end + 1)) (ends x number (end + 1))
stays lane x number end silent h =
    let next = end + 1 in
    subst (λ e. LaneHasRead lane (lane_tones x number next) (lane_certainties x number next) e) (sym (ends-not x number end silent))
    (subst (λ n. LaneHasRead lane (lane_tones x number next) n (ends x number end)) (sym (certainties-not x number end silent))
    (subst (λ t. LaneHasRead lane t (lane_certainties x number end) (ends x number end)) (sym (tones-not x number end silent)) h))

-- the tones with the one that was read
tones_are : (x : List ℤ) (number end : ℕ) (tone : Tone) → reads x number end ≡ true → tone ≡ tone_for x number end
    → lane_tones x number end ++ tone ∷ [] ≡ lane_tones x number (end + 1)
tones_are x number end tone read is = ap (λ t. lane_tones x number end ++ t ∷ []) is ∙ sym (tones-read x number end read)

-- and the numbers
numbers_are : (x : List ℤ) (number end sure : ℕ) → reads x number end ≡ true → sure ≡ certainty (window_to x end)
    → lane_certainties x number end ++ sure ∷ [] ≡ lane_certainties x number (end + 1)
numbers_are x number end sure read is =
    ap (λ n. lane_certainties x number end ++ n ∷ []) is ∙ sym (certainties-read x number end read)

more : (lane : HeldLane) (x : List ℤ) (number end sure : ℕ) (tone : Tone) → reads x number end ≡ true
    → tone ≡ tone_for x number end → sure ≡ certainty (window_to x end)
    → LaneHasRead lane (lane_tones x number end ++ tone ∷ []) (lane_certainties x number end ++ sure ∷ [])
    (ends x number end ++ end ∷ [])
    → LaneHasRead lane (lane_tones x number (end + 1)) (lane_certainties x number (end + 1)) (ends x number (end + 1))
more lane x number end sure tone read is sure_is h =
    let next = end + 1 in
    let ended = ends x number end ++ end ∷ [] in
    subst (λ e. LaneHasRead lane (lane_tones x number next) (lane_certainties x number next) e) (sym (ends-read x number end read))
    (subst (λ n. LaneHasRead lane (lane_tones x number next) n ended) (numbers_are x number end sure read sure_is)
    (subst (λ t. LaneHasRead lane t (lane_certainties x number end ++ sure ∷ []) ended)
    (tones_are x number end tone read is) h))

pub returns-then-not-reads-clause-read : goal.returns-then-not-reads-clause-read
returns-then-not-reads-clause-read c = λ x at h.
    stays c.args.lane.now x c.args.bit.lane c.args.bit.end
    (sym (c.reads.ensures x at.readings at.within) ∙ c.if-not-reads.true) h

pub returns-then-not-reads-clause-heard : goal.returns-then-not-reads-clause-heard
returns-then-not-reads-clause-heard c = λ x before at h taken.
    taken_silent x c.args.bit.lane c.args.bit.end c.args.kept.now.items (before ++ c.args.given.now.items) c.requires.lane
    (sym (c.reads.ensures x at.readings at.within) ∙ c.if-not-reads.true) taken

pub returns-clause-read : goal.returns-clause-read
returns-clause-read c = λ x at h.
    let lane = c.args.bit.lane in
    let end = c.args.bit.end in
    let read = sym (c.reads.ensures x at.readings at.within) ∙ c.if-not-reads.false in
    more c.push-plain.new.self x lane end (certainty c.args.moment.now.window) c.tone.result read
    (c.tone.ensures x end at read) (ap certainty at.window)
    (c.push-plain.ensures.has_read (lane_tones x lane end) (lane_certainties x lane end) (ends x lane end) h)

pub returns-in_err-hear_frame-clause-read : goal.returns-in_err-hear_frame-clause-read
returns-in_err-hear_frame-clause-read c = λ x at h.
    let lane = c.args.bit.lane in
    let end = c.args.bit.end in
    let read = sym (c.reads.ensures x at.readings at.within) ∙ c.if-not-reads.false in
    more c.push-plain.new.self x lane end (certainty c.args.moment.now.window) c.tone.result read
    (c.tone.ensures x end at read) (ap certainty at.window)
    (c.push-plain.ensures.has_read (lane_tones x lane end) (lane_certainties x lane end) (ends x lane end) h)

pub returns-clause-heard : goal.returns-clause-heard
returns-clause-heard c =
    on_ok_weaker c.hear_blocks.result (λ blocks x before at h taken.
    let number = c.args.bit.lane in
    let end = c.args.bit.end in
    let tones : List Tone = lane_tones x number end in
    let numbers : List ℕ = lane_certainties x number end in
    let ended : List ℕ = ends x number end in
    let read = sym (c.reads.ensures x at.readings at.within) ∙ c.if-not-reads.false in
    let tone_is = c.tone.ensures x end at read in
    let bits_are : bits_of (tones ++ c.tone.result ∷ []) ≡ lane_bits x number (end + 1) =
    ap bits_of (tones_are x number end c.tone.result read tone_is) in
    blocks x before read
    (more c.push-plain.new.self x number end (certainty c.args.moment.now.window)
    c.tone.result read tone_is (ap certainty at.window)
    (c.push-plain.ensures.has_read tones numbers ended h))
    (c.in_ok-hear_frame.ensures x before at read
    (λ plain. subst (λ (b : List Bool). (octets : List ℕ) × EndsFrame b octets) bits_are
    (c.push-plain.ensures.heard tones numbers ended h plain))
    (λ octets last. c.push-plain.ensures.frame tones numbers ended octets h
    (subst (λ (b : List Bool). EndsFrame b octets) (sym bits_are) last))
    taken))
    c.hear_blocks.ensures
