use Rattle.station.proofs.Common.{List, refl, sym, subst, on_ok_weaker, AgwMessage, KissItem, Said, Items, Messages}
use Rattle.station.proofs.Common.{IsSaid, AreSaidItems, AreSaidMessages, connection_of, new_connection, Kiss, taking}
use Rattle.station.proofs.Common.{ending, heeding_all}
use Rattle.station.proofs.TakeLemmas.{connection_none}
use Rattle.station.proofs.TakenLemmas.{found_id, taken_none, taken_items, taken_messages}
use Rattle.station.proofs.parts.Parts.take.Goals as goal

pub returns-in_default-clause-step : goal.returns-in_default-clause-step
returns-in_default-clause-step c = λ turn shows. (
  turn,
  taken_none c.args.octets.now turn (connection_of c.args.id turn.now.connections)
      (connection_none c.args.id c.args.self.now.connections.items turn.now.connections (new_connection 0 Kiss)
      shows.holds.connections (c.in_default.ensures.none refl)),
  shows,
)

pub returns-in_ok-heed_all-in-Items-clause-step : goal.returns-in_ok-heed_all-in-Items-clause-step
returns-in_ok-heed_all-in-Items-clause-step c = λ turn shows.
    let id = c.args.id in
    let octets = c.args.octets.now in
    let own = connection_of id turn.now.connections in
    let items = c.deref.result.now in
    let web = c.in-Items.web in
    let told : IsSaid own octets (Items c.in-Items.items web) =
    subst (λ (said : Said). IsSaid own octets said) c.in-Items.is
    (c.in_ok-items.ensures.said c.args.out.now turn shows) in
    let said : AreSaidItems own octets items web = subst (λ (all : List KissItem). AreSaidItems own octets all web)
    (sym c.deref.ensures.value) told in
    let heeded = heeding_all id items (taking id octets turn) in
    on_ok_weaker c.end.result (λ done. (
      ending id web heeded,
      taken_items id octets turn items web own (found_id id turn.now.connections) said,
      done,
    ))
    (c.end.ensures.shows heeded (c.in_ok-heed_all-in-Items.ensures.shows (taking id octets turn)
    (c.in_ok-items.ensures.shows c.args.out.now turn shows)))

pub returns-in_ok-answer_all-in-Messages-clause-step : goal.returns-in_ok-answer_all-in-Messages-clause-step
returns-in_ok-answer_all-in-Messages-clause-step c = λ turn shows.
    let id = c.args.id in
    let octets = c.args.octets.now in
    let own = connection_of id turn.now.connections in
    let messages = c.deref-in-Messages.result.now in
    let failed = c.in-Messages.failed in
    let told : IsSaid own octets (Messages c.in-Messages.messages failed) =
    subst (λ (said : Said). IsSaid own octets said) c.in-Messages.is
    (c.in_ok-items.ensures.said c.args.out.now turn shows) in
    let said : AreSaidMessages own octets messages failed =
    subst (λ (all : List AgwMessage). AreSaidMessages own octets all failed) (sym c.deref-in-Messages.ensures.value)
    told in
    let answered = c.in_ok-answer_all-in-Messages.ensures.step (taking id octets turn)
    (c.in_ok-items.ensures.shows c.args.out.now turn shows) in
    on_ok_weaker c.end-in-Messages.result (λ done. (
      ending id failed answered.0,
      taken_messages id octets turn answered.0 messages failed own (found_id id turn.now.connections) said answered.1,
      done,
    ))
    (c.end-in-Messages.ensures.shows answered.0 answered.2)
