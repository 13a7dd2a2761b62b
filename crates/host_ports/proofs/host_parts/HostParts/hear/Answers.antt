use Rattle.host_ports.proofs.Common.{on_ok_weaker, HostParts}
use Rattle.station.specs.Heard.{IsHeard}
use Rattle.host_ports.proofs.MoveLemmas.{delivered, with_station, stepped}
use Rattle.host_ports.proofs.host_parts.HostParts.hear.Goals as goal

pub returns-clause-moves : goal.returns-clause-moves
returns-clause-moves c =
    let before : HostParts = c.args.self.now in
    let between : HostParts = record before { station = c.heard.new.self } in
    on_ok_weaker c.tell_who_left.result
    (λ left. stepped (IsHeard c.args.octets.now) before c.deliver.new.self c.tell_who_left.new.self
    (delivered (IsHeard c.args.octets.now) c.in_ok-out.out before between c.deliver.new.self c.in_ok-out.ensures.step
    (with_station before c.heard.new.self) c.in_ok-deliver.ensures.moves)
    left)
    c.tell_who_left.ensures.moves
