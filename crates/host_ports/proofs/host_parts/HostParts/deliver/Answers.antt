use Rattle.host_ports.proofs.Common.{on_ok_weaker}
use Rattle.host_ports.proofs.MoveLemmas.{narrows_then}
use Rattle.host_ports.proofs.host_parts.HostParts.deliver.Goals as goal

pub returns-clause-narrows : goal.returns-clause-narrows
returns-clause-narrows c =
    on_ok_weaker c.close_all.result (λ narrows. narrows_then c.args.self.now c.append_all.new.self c.close_all.new.self
    c.in_ok-append_all.ensures.narrows narrows) c.close_all.ensures.narrows
