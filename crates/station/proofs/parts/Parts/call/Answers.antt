use Rattle.station.proofs.Common.{◌≡◌, true, false, Some, sym, ◌∙◌, subst, on_ok_weaker, IsCallMade, may_call}
use Rattle.station.proofs.Common.{refused_reply, replying, as_route, Route}
use Rattle.station.specs.AgwRequests.{called_route}
use Rattle.station.proofs.CallingLemmas.{call-astray, call-refused, call-made, shows-refused}
use Rattle.station.proofs.parts.Parts.call.Goals as goal

pub returns-in_default-clause-step : goal.returns-in_default-clause-step
returns-in_default-clause-step c = λ turn shows.
    let id = c.args.id in
    let message = c.args.message.now in
    on_ok_weaker c.refuse.result (λ is. (
      replying id (refused_reply message) turn,
      call-astray id message (called_route message) turn c.in_default.ensures,
      shows-refused c.args.self.now c.args.out.now c.refuse.new.out turn id message shows is,
    )) c.refuse.ensures.sent

pub returns-then-not-may_call-clause-step : goal.returns-then-not-may_call-clause-step
returns-then-not-may_call-clause-step c = λ turn shows.
    let id = c.args.id in
    let message = c.args.message.now in
    let route : Route = as_route c.in-Some.route in
    let told : Some route ≡ called_route message = c.in-Some.ensures in
    let may : may_call id route turn.now ≡ false = sym (c.may_call.ensures.may turn.now shows.holds)
    ∙ c.if-not-may_call.true in
    on_ok_weaker c.refuse-then-not-may_call.result (λ is. (
      replying id (refused_reply message) turn,
      call-refused id message route (called_route message) turn told may,
      shows-refused c.args.self.now c.args.out.now c.refuse-then-not-may_call.new.out turn id message shows is,
    )) c.refuse-then-not-may_call.ensures.sent

pub returns-clause-step : goal.returns-clause-step
returns-clause-step c = λ turn shows.
    let id = c.args.id in
    let message = c.args.message.now in
    let route : Route = as_route c.in-Some.route in
    let told : Some route ≡ called_route message = c.in-Some.ensures in
    let may : may_call id route turn.now ≡ true = sym (c.may_call.ensures.may turn.now shows.holds)
    ∙ c.if-not-may_call.false in
    on_ok_weaker c.connect.result (λ p. (
      p.0,
      call-made id message route (called_route message) turn p.0 told may
          (subst (λ pid. IsCallMade id pid route turn p.0) c.called_pid.ensures p.1),
      p.2,
    )) (c.connect.ensures.made turn shows)
