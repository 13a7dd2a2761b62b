use Rattle.host_ports.proofs.Common.{ap, sym, subst, ◌∙◌, ℕ, OpenIds, ids_of_sockets, Rise}
use Rattle.std.proofs.Common.{not, ◌==◌, List, filter}
use Rattle.host_ports.proofs.RealLemmas.{ids_filtered, rise_without}
use Rattle.host_ports.proofs.sockets.Sockets.remove.Goals as goal

pub invariant_of-self : goal.invariant_of-self
invariant_of-self c =
    subst (λ items. Rise 1 (ids_of_sockets items) c.self.inside.next_id) (sym c.remove.ensures)
    (rise_without (λ socket. not (socket.id == c.args.id)) 1 c.self.inside.list.items c.self.inside.next_id
    c.self.invariant)

pub returns : goal.returns
returns c =
    ap (view_of c.self.inside.next_id) (ap ids_of_sockets c.remove.ensures
    ∙ ids_filtered (λ other. not (other == c.args.id)) c.self.inside.list.items)
    ∙ ap (without c.args.id) c.self.view_is
  where
    view_of : ℕ → List ℕ → OpenIds
    view_of next ids = record { ids = ids; next = next }

    without : ℕ → OpenIds → OpenIds
    without id view = record view { ids = filter (λ other. not (other == id)) view.ids }
