use Rattle.host_ports.proofs.Common.{◌≡◌, ℕ, drop, sym, ap, ◌∙◌, slice_get, ids_of, is_among}
use Rattle.std.proofs.Common.{List, ◌∷◌, Some}
use Rattle.host_ports.proofs.LeftLemmas.{one_left, first_of, first_among, leaving_known}
use Rattle.host_ports.proofs.NamedLemmas.{among_there}
use Rattle.host_ports.proofs.host_parts.HostParts.tell_who_left.Goals as goal

pub tell-requires-clause-admitted : goal.tell-requires-clause-admitted
tell-requires-clause-admitted c =
    let items : List ℕ = c.loop-first.self.leaving.items in
    let id : ℕ = c.in-Some.first.now in
    let got : slice_get items 0 ≡ Some id = ap (λ ids. slice_get ids 0) (sym c.deref.ensures.value)
    ∙ sym c.in-Some.ensures.value in
    let is : items ≡ id ∷ drop 1 items = first_of items id got in
    among_there id (ids_of c.forget.new.self.station)
    (ap (λ station. is_among id (ids_of station)) c.forget.ensures.narrows.station
    ∙ leaving_known id c.loop-first.self c.loop-first.invariant.known (first_among items (drop 1 items) id is))

pub loop-first-preserved : goal.loop-first-preserved
loop-first-preserved c =
    let items : List ℕ = c.loop-first.self.leaving.items in
    let id : ℕ = c.in-Some.first.now in
    let got : slice_get items 0 ≡ Some id = ap (λ ids. slice_get ids 0) (sym c.deref.ensures.value)
    ∙ sym c.in-Some.ensures.value in
    let is : items ≡ id ∷ drop 1 items = first_of items id got in
    record {
      some = one_left id (drop 1 items) c.args.self.now c.loop-first.self c.forget.new.self c.tell.new.self
          c.loop-first.invariant.some is c.forget.ensures.moves c.in_ok-tell.ensures.moves;
      known = c.in_ok-tell.ensures.known;
    }
