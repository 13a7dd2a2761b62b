use Rattle.host_ports.proofs.Common.{HostParts, MovesBy, IsStep}
use Rattle.station.specs.Ticks.{IsTick}
use Rattle.host_ports.proofs.MoveLemmas.{delivered, with_station, stepped}
use Rattle.host_ports.proofs.host_parts.HostParts.tick.Goals as goal

pub returns-clause-moves : goal.returns-clause-moves
returns-clause-moves c =
    let before : HostParts = c.args.self.now in
    let between : HostParts = record before { station = c.tick.new.self } in
    let step = IsTick c.args.busy in
    let moves : MovesBy (IsStep step) before c.tell_who_left.new.self =
    stepped step before c.deliver.new.self c.tell_who_left.new.self
    (delivered step c.in_ok-tick.tick.out before between c.deliver.new.self c.in_ok-tick.ensures.step
    (with_station before c.tick.new.self) c.in_ok-deliver.ensures.moves)
    c.in_ok-tell_who_left.ensures.moves in
    λ printed hosts h.
    let m = moves printed hosts h in
    (m.0, record { on_air = c.in_ok-tick.ensures.air hosts.station h.station; step = m.1 }, m.2)
