use Rattle.host_ports.proofs.Common.{refl, on_ok_weaker, IsHostTurn, HostParts}
use Rattle.host_ports.proofs.MoveLemmas.{delivered, with_station, known_after}
use Rattle.host_ports.proofs.ResultLemmas.{on_ok_two}
use Rattle.host_ports.proofs.host_parts.HostParts.tell.Goals as goal

pub returns-clause-moves : goal.returns-clause-moves
returns-clause-moves c =
    let before : HostParts = c.args.self.now in
    let between : HostParts = record before { station = c.host.new.self } in
    on_ok_weaker c.deliver.result
    (λ moves. delivered (IsHostTurn c.args.event) c.in_ok-out.out before between c.deliver.new.self
    c.in_ok-out.ensures.step (with_station before c.host.new.self) moves)
    c.deliver.ensures.moves

pub returns-clause-known : goal.returns-clause-known
returns-clause-known c =
    let before : HostParts = c.args.self.now in
    let between : HostParts = record before { station = c.host.new.self } in
    on_ok_two c.deliver.result
    (λ narrows gone. known_after c.args.event c.in_ok-out.out.closed before between c.deliver.new.self c.requires.known
    refl refl refl refl c.in_ok-out.ensures.ids narrows gone)
    c.deliver.ensures.narrows c.deliver.ensures.gone
