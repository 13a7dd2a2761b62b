use Rattle.station.proofs.Common.{◌≡◌, ap, on_ok_weaker, Path, Connect, as_route, event_at, making, Route, Turn}
use Rattle.station.specs.Routes.{path_along}
use Rattle.station.proofs.parts.Parts.connect.Goals as goal

pub returns-clause-made : goal.returns-clause-made
returns-clause-made c = λ turn shows.
    let id = c.args.id in
    let pid = c.args.pid in
    let key = c.in_ok-key.key in
    let route : Route = as_route c.args.route.now in
    let made = c.in_ok-key.ensures.made c.args.out.now turn shows in
    let before : Turn = making key id pid route.local route.remote c.path.result turn in
    let same : before ≡ making key id pid route.local route.remote (path_along route) turn =
    ap (λ (path : Path). making key id pid route.local route.remote path turn) c.path.ensures in
    on_ok_weaker c.link_event.result (λ s. (
      event_at key Connect before,
      (key, made.0, ap (event_at key Connect) same),
      s,
    ))
    (c.link_event.ensures.shows before made.1)
