use Rattle.host_ports.proofs.Common.{rules, filter_same}
use Rattle.host_ports.proofs.shutting.remove_client.Goals as goal

pub returns : goal.returns
returns c = filter_same _ _ _ (λ x b f' k. search rules) _ _ c.retain.ensures.filtered
