use Rattle.hf_sensitive.proofs.Common.{◌≡◌, ◌+◌, ◌-◌, ℕ, List, sym, ap, ◌∙◌, subst, arith, true, true≢false, HasPath}
use Rattle.hdlc_framer.specs.Frames.{IsFrame}
use Rattle.hdlc_framer.specs.Held.{HoldsFrame}
use Rattle.hf_sensitive.proofs.HearLemmas.{not_in_time, no_path, one_frame, held_frame, frame_ends}
use Rattle.hf_sensitive.proofs.FoundLemmas.{bounds_more}
use Rattle.hf_sensitive.proofs.added_frame.add_frame.Goals as goal

pub returns-then-not-ends_in_time-clause-found : goal.returns-then-not-ends_in_time-clause-found
returns-then-not-ends_in_time-clause-found c = λ x last is frame.
    not_in_time x c.args.reading.place c.args.reading.lane c.args.found.now.items
    (sym (c.ends_in_time.ensures x c.args.reading.place last) ∙ c.if-not-ends_in_time.true)

pub returns-then-not-has_path-clause-found : goal.returns-then-not-has_path-clause-found
returns-then-not-has_path-clause-found c = λ x last is frame.
    no_path x c.args.reading.place c.args.reading.lane c.args.found.now.items c.octets.result.now
    (held_frame c.args.lane.now x c.args.reading.place c.args.reading.lane c.octets.result.now frame c.octets.ensures)
    (λ path. true≢false (sym (c.has_path.ensures.lacks path) ∙ c.if-not-has_path.true))

pub returns-clause-found : goal.returns-clause-found
returns-clause-found c = λ x last is frame.
    let given : (o : List ℕ) → IsFrame o → HoldsFrame c.args.lane.now.deframer o → c.in_ok-octets.octets ≡ o
    = λ o whole holds. c.in_ok-octets.ensures ∙ c.octets-2.ensures o whole holds in
    let here = frame_ends c.args.lane.now x c.args.reading.place c.args.reading.lane c.in_ok-octets.octets frame given in
    let first = held_frame c.args.lane.now x c.args.reading.place c.args.reading.lane c.octets.result.now frame
    c.octets.ensures in
    one_frame x c.args.reading.place c.args.reading.lane c.args.found.now.items c.push.new.self.items c.in_ok-octets.octets _
    c.requires.number.0 c.requires.number.1 c.in_ok-push.ensures.items
    (ap (λ d. c.args.reading.place + 8 - d) (c.from.ensures ∙ c.delay_of.ensures.delay))
    (sym is ∙ c.requires.reads) here
    (held_frame c.args.lane.now x c.args.reading.place c.args.reading.lane c.in_ok-octets.octets frame given)
    (subst HasPath (first c.in_ok-octets.octets here) (c.has_path.ensures.has c.if-not-has_path.false))
    (sym (c.ends_in_time.ensures x c.args.reading.place last) ∙ c.if-not-ends_in_time.false)

pub returns-clause-bounds : goal.returns-clause-bounds
returns-clause-bounds c = λ low under all.
    let small = c.requires.place in
    let delay = c.delay_of.ensures.bound in
    let same = c.from.ensures in
    bounds_more low c.args.found.now.items c.push.new.self.items _ c.in_ok-push.ensures.items
    (record { can = record { lane = c.requires.number.1; end = omega arith }; from = omega arith }) all
