use Rattle.station.proofs.Common.{◌≡◌, ◌<◌, ◌∙◌, List, length, map, take, sym, ap, subst, arith, get_or, take_all, Shows, Turn}
use Rattle.station.proofs.Common.{in_order}
use Rattle.agwpe_port.specs.Messages.{spelling}
use Rattle.frame_monitor.specs.declared.heard_station.HeardStation.{HeardStation}
use Rattle.station.specs.AgwRequests.{heard_reply, replying, replying_heard}
use Rattle.station.specs.Turn.{Out, with_piece}
use Rattle.station.proofs.TurnLemmas.{in_order-more}
use Rattle.station.proofs.parts.Parts.reply_heard.Goals as goal

pub loop-station-preserved : goal.loop-station-preserved
loop-station-preserved c = record {
  sent = λ turn shows.
      let parts = c.args.self.now in
      let id = c.args.id in
      let held = c.deref-station-items.result.now in
      let heard = turn.now.heard in
      let i = c.loop-station.station-index in
      let given : held ≡ heard = c.deref-station-items.ensures.value ∙ shows.holds.heard in
      let within : i < length heard = omega (arith, c.loop-station-test.true, ap length given) in
      let one : HeardStation → Turn → Turn = λ station. replying id (heard_reply station) in
      let d = c.station-item.result in
      let here : d ≡ get_or heard i d = c.station-item.is ∙ ap (λ (xs : List HeardStation). get_or xs i d) given in
      let before : Turn = in_order (map one (take i heard)) turn in
      let shown = c.loop-station.invariant.sent turn shows in
      subst (λ (following : Turn). Shows parts c.reply_station.new.out following) (sym (in_order-more one heard i d turn within))
      (record {
        holds = shown.holds;
        gave = c.in_ok-reply_station.ensures.sent
            ∙ ap (λ (out : Out). with_piece id (spelling (heard_reply d)) out) shown.gave
            ∙ ap (λ (station : HeardStation). with_piece id (spelling (heard_reply station)) before.out) here;
      });
  closed = c.in_ok-reply_station.ensures.closed ∙ c.loop-station.invariant.closed;
}

pub returns-clause-shows : goal.returns-clause-shows
returns-clause-shows c = λ turn shows.
    let heard = turn.now.heard in
    let given : c.deref-station-items.result.now ≡ heard = c.deref-station-items.ensures.value ∙ shows.holds.heard in
    let all : take c.loop-station.station-index heard ≡ heard =
    take_all c.loop-station.station-index heard (omega (arith, ap length given)) in
    subst (λ (shown : List HeardStation). Shows c.args.self.now c.loop-station.out (replying_heard c.args.id shown turn)) all
    (c.loop-station.invariant.sent turn shows)
