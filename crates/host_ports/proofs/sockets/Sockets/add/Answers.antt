use Rattle.host_ports.proofs.Common.{ap, sym, subst, ◌∙◌, ◌+◌, is_among, OpenIds, ids_of_sockets, Rise}
use Rattle.host_ports.proofs.RealLemmas.{rise_on, next_is_new, ids_append}
use Rattle.host_ports.proofs.sockets.Sockets.add.Goals as goal

pub invariant_of-self-2 : goal.invariant_of-self-2
invariant_of-self-2 c =
    subst (λ ids. Rise 1 ids (c.self.inside.next_id + 1))
    (sym (ap ids_of_sockets c.in_ok-push.ensures.items ∙ ids_append c.self.inside.list.items _))
    (rise_on 1 (ids_of_sockets c.self.inside.list.items) c.self.inside.next_id c.self.invariant)

pub returns-clause-new : goal.returns-clause-new
returns-clause-new c =
    ap (λ (view : OpenIds). is_among c.self.inside.next_id view.ids) (sym c.self.view_is)
    ∙ next_is_new 1 (ids_of_sockets c.self.inside.list.items) c.self.inside.next_id c.self.invariant
