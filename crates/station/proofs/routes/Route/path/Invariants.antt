use Rattle.station.proofs.Common.{◌≡◌, map, take}
use Rattle.station.specs.Routes.{waiting_hop}
use Rattle.station.proofs.routes.Route.path.Given as goal

-- the calls so far wait
abbrev pub invariant-loop-call : goal.invariant-loop-call
invariant-loop-call l = l.repeaters.items ≡ map waiting_hop (take l.call-index l.call-items)
