use Rattle.sensitive_receiver.proofs.Common.{◌+◌, ◌-◌, sym, ap, ◌∙◌, subst, arith, true≢false, HasPath}
use Rattle.sensitive_receiver.proofs.HearLemmas.{not_in_time, no_path, one_frame}
use Rattle.sensitive_receiver.proofs.FoundLemmas.{bounds_more}
use Rattle.sensitive_receiver.proofs.hearing.add_frame.Goals as goal

pub returns-then-not-ends_in_time-clause-found : goal.returns-then-not-ends_in_time-clause-found
returns-then-not-ends_in_time-clause-found c = λ x last frame.
    not_in_time c.args.ring.now c.args.number c.args.place x c.args.lane.now last c.requires.list frame
    c.args.found.now.items
    (sym (c.ends_in_time.ensures x c.args.place last.decided last.last) ∙ c.if-not-ends_in_time.true)

pub returns-then-not-has_path-clause-found : goal.returns-then-not-has_path-clause-found
returns-then-not-has_path-clause-found c = λ x last frame.
    no_path c.args.ring.now c.args.number c.args.place x c.args.lane.now last c.requires.list frame
    c.args.found.now.items c.octets.result.now c.octets.ensures
    (λ path. true≢false (sym (c.has_path.ensures.lacks path) ∙ c.if-not-has_path.true))

pub returns-clause-found : goal.returns-clause-found
returns-clause-found c = λ x last frame.
    one_frame c.args.ring.now c.args.number c.args.place x c.args.lane.now last c.requires.list frame
    c.args.found.now.items c.push.new.self.items c.in_ok-octets.octets _
    c.requires.number c.in_ok-push.ensures.items
    (ap (λ d. c.args.place + 8 - d) (c.from.ensures ∙ c.delay_of.ensures.delay))
    (λ o is holds. c.in_ok-octets.ensures ∙ c.octets-2.ensures o is holds)
    (subst HasPath
    (c.octets.ensures frame.octets frame.ends.2 (frame.holds frame.octets frame.ends)
    ∙ sym (c.in_ok-octets.ensures ∙ c.octets-2.ensures frame.octets frame.ends.2 (frame.holds frame.octets frame.ends)))
    (c.has_path.ensures.has c.if-not-has_path.false))
    (sym (c.ends_in_time.ensures x c.args.place last.decided last.last) ∙ c.if-not-ends_in_time.false)

pub returns-clause-bounds : goal.returns-clause-bounds
returns-clause-bounds c = λ low under all.
    let small = c.requires.place in
    let delay = c.delay_of.ensures.bound in
    let same = c.from.ensures in
    bounds_more low c.args.found.now.items c.push.new.self.items _ c.in_ok-push.ensures.items
    (record {
      room = record { lane = c.requires.number.1; end = omega arith };
      from = record { lane = (let first = c.requires.number.0 in omega arith); end = omega arith };
    }) all
