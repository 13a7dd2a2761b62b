use Rattle.station.proofs.Common.{◌≡◌, Some, None, sym, ◌∙◌, ap, subst, arith, get_or, set, Done, HeldLinks, event_of}
use Rattle.station.proofs.Common.{stepped_link, IsSetAt, OnOk, place_at}
use Rattle.station.specs.LinkRequests.{HasNumbers}
use Rattle.station.proofs.TableLemmas.{at_place, IsTable-written, IsSetAt-written}
use Rattle.station.proofs.link_table.LinkTable.take.Goals as goal

pub take-requires : goal.take-requires
take-requires c =
    let items = c.self.inside.places.items in
    let shown : c.in-Some.place.now ≡ get_or items c.args.key None = c.in-Some.ensures.item.4 (omega arith) None in
    subst (HasNumbers c.args.event) (ap (place_at c.args.key) (sym c.self.view_is) ∙ sym shown ∙ c.in-Some-place.is)
    c.requires

pub invariant_of-self-2 : goal.invariant_of-self-2
invariant_of-self-2 c =
    let items = c.self.inside.places.items in
    let shown : c.in-Some.place.now ≡ get_or items c.args.key None = c.in-Some.ensures.item.4 (omega arith) None in
    IsTable-written (record { places = items; next = c.self.inside.next }) c.args.key c.in-Some-place.link
    c.take.new.self c.self.invariant (sym shown ∙ c.in-Some-place.is)

pub returns-clause-acts : goal.returns-clause-acts
returns-clause-acts c = λ link here.
    let items = c.self.inside.places.items in
    let shown : c.in-Some.place.now ≡ get_or items c.args.key None = c.in-Some.ensures.item.4 (omega arith) None in
    c.take.ensures.acts link (at_place c.args.self.now c.args.key link (Some c.in-Some-place.link)
    (sym c.in-Some-place.is ∙ shown ∙ ap (place_at c.args.key) c.self.view_is) here)

pub returns-clause-stands_for : goal.returns-clause-stands_for
returns-clause-stands_for c = λ link here.
    let items = c.self.inside.places.items in
    let shown : c.in-Some.place.now ≡ get_or items c.args.key None = c.in-Some.ensures.item.4 (omega arith) None in
    let held : HeldLinks = record { places = items; next = c.self.inside.next } in
    let new : HeldLinks = record { places = set items c.args.key (Some c.take.new.self); next = c.self.inside.next } in
    let next = stepped_link (event_of c.args.event) link in
    subst (λ (old : HeldLinks). OnOk c.take.result (IsSetAt c.args.key old new next)) c.self.view_is
    (IsSetAt-written held c.args.key c.take.new.self next Done c.take.result
    (c.take.ensures.stands_for link (at_place c.args.self.now c.args.key link (Some c.in-Some-place.link)
    (sym c.in-Some-place.is ∙ shown ∙ ap (place_at c.args.key) c.self.view_is) here)))
