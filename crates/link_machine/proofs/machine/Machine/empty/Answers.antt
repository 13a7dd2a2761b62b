use Rattle.link_machine.proofs.Common.{refl, sym, subst, arith, Outgoing, IsOutgoing, StandsForOutgoing, emptied, Holds}
use Rattle.selective_reject.specs.Outgoing.{empty_outgoing}
use Rattle.link_machine.specs.Machine.{unquit}
use Rattle.link_machine.proofs.Showing.{holds_setting, holds_outgoing}
use Rattle.link_machine.proofs.machine.Machine.empty.Goals as goal

formed : IsOutgoing empty_outgoing
formed = record {
  va = omega arith;
  vs = omega arith;
  top = omega arith;
  sent = omega arith;
  under_way = omega arith;
  room = omega arith;
}

stands : StandsForOutgoing empty_outgoing empty_outgoing
stands = record { va = refl; vs = refl; top = refl; packets = refl; again = refl }

pub returns-clause-holds : goal.returns-clause-holds
returns-clause-holds c = λ m h.
    let none = holds_outgoing c.args.self.now m empty_outgoing empty_outgoing h formed stands in
    let unquit_too = holds_setting unquit (record c.args.self.now { outgoing = empty_outgoing })
    (record m { outgoing = empty_outgoing }) none in
    let P : Outgoing → Type 0 =
    λ o. Holds (record c.args.self.now { control = unquit c.args.self.now.control; outgoing = o }) (emptied m) in
    subst P (sym c.clear.ensures) unquit_too

pub returns-clause-control : goal.returns-clause-control
returns-clause-control c = refl
