use Rattle.station.proofs.Common.{[], Some, Option, ◌∙◌, ap, Callsign, call_in}
use Rattle.station.specs.AgwRequests.{key_of_route}
use Rattle.station.specs.Routes.{route_of}
use Rattle.station.proofs.HearLemmas.{key_found}
use Rattle.station.proofs.link_table.LinkTable.key_of.Goals as goal

pub returns : goal.returns
returns c = λ links h.
    let local = c.in-Some.local in
    let remote = c.in-Some-call_in.remote in
    c.key_between.ensures ∙ key_found c.args.self.now links local remote h
    ∙ ap (λ (call : Option Callsign). key_of_route (route_of call (Some remote) (Some [])) links) c.in-Some.ensures
    ∙ ap (λ (call : Option Callsign). key_of_route (route_of (call_in c.args.message.now.from) call (Some [])) links)
    c.in-Some-call_in.ensures
