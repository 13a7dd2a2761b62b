use Rattle.tnc_call.proofs.Common.{◌+◌, ◌++◌, ◌∷◌, [], ℕ, List, take, drop, subst, sym, ◌∙◌, MatchOption, HostEvent}
use Rattle.tnc_call.proofs.Common.{WriteFault, octets_of, event_octets, GoesOn, StopsBy}
use Rattle.tnc_call.proofs.HeardLemmas.{goes_if_none, none_is_no_end, events_stop, octets_with, split_at}
use Rattle.tnc_call.proofs.talk.Talk.take_all.Goals as goal

pub loop-event-preserved : goal.loop-event-preserved
loop-event-preserved g c = record {
  goes_on = λ plan host before goes.
      let events : List HostEvent = c.args.events.now in
      let i : ℕ = c.loop-event.event-index in
      let id : ℕ = c.args.id in
      let event : HostEvent = c.event-item.result in
      let P : List ℕ → Type 0 = λ xs. GoesOn c.take-end.new.self plan xs before
      (g.O.Sink.told c.take-end.new.output).written in
      subst P (octets_with id host events i event c.loop-event-test.true c.event-item.is)
      (goes_if_none c.take-end.result
      (P ((host ++ octets_of id (take i events)) ++ event_octets id event))
      (StopsBy plan id (host ++ octets_of id (take i events)) (event ∷ []) before
      (g.O.Sink.told c.take-end.new.output).written)
      (sym c.is_some.ensures ∙ c.if-is_some.false)
      (c.take-end.ensures.taken plan (host ++ octets_of id (take i events)) before
      (c.loop-event.invariant.goes_on plan host before goes)));
  kept = c.take-end.ensures.kept ∙ c.loop-event.invariant.kept;
  within = c.take-end.ensures.within;
  faultless = c.take-end.ensures.faultless
      (none_is_no_end c.take-end.result WriteFault (sym c.is_some.ensures ∙ c.if-is_some.false))
      ∙ c.loop-event.invariant.faultless;
}

pub returns-then-is_some-clause-taken : goal.returns-then-is_some-clause-taken
returns-then-is_some-clause-taken g c = λ plan host before goes.
    let events : List HostEvent = c.args.events.now in
    let i : ℕ = c.loop-event.event-index in
    let id : ℕ = c.args.id in
    let event : HostEvent = c.event-item.result in
    let written = (g.O.Sink.told c.take-end.new.output).written in
    let R : Type 0 = GoesOn c.take-end.new.self plan (host ++ octets_of id events) before written in
    let P : List HostEvent → Type 0 = λ es. MatchOption c.take-end.result R (StopsBy plan id host es before written) in
    subst P (split_at events i event c.loop-event-test.true c.event-item.is)
    (events_stop plan id host (take i events) (drop (i + 1) events) event before written c.take-end.result
    (GoesOn c.take-end.new.self plan ((host ++ octets_of id (take i events)) ++ event_octets id event) before written) R
    (sym c.is_some.ensures ∙ c.if-is_some.true)
    (c.take-end.ensures.taken plan (host ++ octets_of id (take i events)) before
    (c.loop-event.invariant.goes_on plan host before goes)))
