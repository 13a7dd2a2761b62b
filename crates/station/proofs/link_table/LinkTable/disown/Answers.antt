use Rattle.station.proofs.Common.{◌≡◌, Some, None, Ok, refl, sym, ◌∙◌, ap, subst, arith, get_or, set, OwnedLink}
use Rattle.station.proofs.Common.{HeldLinks, without_owner, StandsForLink, IsSetAt, place_at}
use Rattle.station.proofs.TableLemmas.{at_place, IsTable-written, IsSetAt-written}
use Rattle.station.proofs.link_table.LinkTable.disown.Goals as goal

pub invariant_of-self-2 : goal.invariant_of-self-2
invariant_of-self-2 c =
    let items = c.self.inside.places.items in
    let shown : c.in-Some.place.now ≡ get_or items c.args.key None = c.in-Some.ensures.item.4 (omega arith) None in
    IsTable-written (record { places = items; next = c.self.inside.next }) c.args.key c.in-Some-place.link
    c.disown.new.self c.self.invariant (sym shown ∙ c.in-Some-place.is)

pub returns : goal.returns
returns c = λ link here.
    let items = c.self.inside.places.items in
    let shown : c.in-Some.place.now ≡ get_or items c.args.key None = c.in-Some.ensures.item.4 (omega arith) None in
    let held : HeldLinks = record { places = items; next = c.self.inside.next } in
    let new : HeldLinks = record {
      places = set items c.args.key
          (Some c.disown.new.self);
      next = c.self.inside.next;
    } in
    let stands : StandsForLink c.in-Some-place.link link = at_place c.args.self.now c.args.key link
    (Some c.in-Some-place.link) (sym c.in-Some-place.is ∙ shown ∙ ap (place_at c.args.key) c.self.view_is) here in
    subst (λ (old : HeldLinks). IsSetAt c.args.key old new (without_owner link)) c.self.view_is
    (IsSetAt-written held c.args.key c.disown.new.self (without_owner link) (Unit {0}) (Ok tt)
    (subst (λ (owned : OwnedLink). StandsForLink owned (without_owner link)) (sym c.disown.ensures)
    (record { local = stands.local; remote = stands.remote; owner = refl; pid = stands.pid; machine = stands.machine })))
