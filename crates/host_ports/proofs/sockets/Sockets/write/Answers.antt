use Rattle.host_ports.proofs.Common.{◌≡◌, ◌<◌, ℕ, length, get_or, ap, sym, subst, ◌∙◌, Socket, OpenIds}
use Rattle.host_ports.proofs.Common.{Rise}
use Rattle.std.proofs.Common.{List}
use Rattle.host_ports.proofs.RealLemmas.{ids_set}
use Rattle.host_ports.proofs.sockets.Sockets.write.Goals as goal

pub invariant_of-self : goal.invariant_of-self
invariant_of-self c =
    let items : List Socket = c.self.inside.list.items in
    let within : c.in-Some.at < length items =
    subst (λ (xs : List Socket). c.in-Some.at < length xs) c.deref.ensures.value c.in-Some.ensures.within in
    let found : (get_or items c.in-Some.at c.write.new.self).id ≡ c.args.id =
    subst (λ (xs : List Socket). (get_or xs c.in-Some.at c.write.new.self).id ≡ c.args.id) c.deref.ensures.value
    (c.in-Some.ensures.id c.write.new.self) in
    subst (λ ids. Rise 1 ids c.self.inside.next_id)
    (sym (ids_set items c.in-Some.at c.write.new.self c.write.new.self within (c.write.ensures.id ∙ sym found)))
    c.self.invariant

pub returns-in-Some-clause-same : goal.returns-in-Some-clause-same
returns-in-Some-clause-same c =
    let items : List Socket = c.self.inside.list.items in
    let within : c.in-Some.at < length items =
    subst (λ (xs : List Socket). c.in-Some.at < length xs) c.deref.ensures.value c.in-Some.ensures.within in
    let found : (get_or items c.in-Some.at c.write.new.self).id ≡ c.args.id =
    subst (λ (xs : List Socket). (get_or xs c.in-Some.at c.write.new.self).id ≡ c.args.id) c.deref.ensures.value
    (c.in-Some.ensures.id c.write.new.self) in
    ap (view_of c.self.inside.next_id)
    (ids_set items c.in-Some.at c.write.new.self c.write.new.self within (c.write.ensures.id ∙ sym found))
    ∙ c.self.view_is
  where
    view_of : ℕ → List ℕ → OpenIds
    view_of next ids = record { ids = ids; next = next }
