use Rattle.host_ports.proofs.Common.{sym, subst, rules, filter_same, ids_of_sockets, Rise}
use Rattle.std.proofs.Common.{not}
use Rattle.host_ports.proofs.RealLemmas.{rise_without}
use Rattle.host_ports.proofs.sockets.Sockets.remove_gone.Goals as goal

pub invariant_of-self : goal.invariant_of-self
invariant_of-self c =
    subst (λ items. Rise 1 (ids_of_sockets items) c.self.inside.next_id)
    (sym (filter_same _ _ _ (λ x b f' k. search rules) _ _ c.retain.ensures.filtered))
    (rise_without (λ socket. not socket.gone) 1 c.self.inside.list.items c.self.inside.next_id c.self.invariant)
