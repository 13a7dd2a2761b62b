use Rattle.station.proofs.Common.{◌≡◌, count_by, is_some, ◌∙◌, ap, arith}
use Rattle.std.proofs.lemmas.List.Sums.{count_by-le-length}
use Rattle.station.proofs.link_table.LinkTable.len.Goals as goal

pub overflow_cast-result : goal.overflow_cast-result
overflow_cast-result c =
    let items = c.self.inside.places.items in
    let counted : c.count.result ≡ count_by is_some items = c.count.ensures
    ∙ ap (λ places. count_by is_some places) c.deref.ensures.value in
    omega (arith, counted, c.self.invariant.size, count_by-le-length is_some items)

pub returns-clause-most : goal.returns-clause-most
returns-clause-most c =
    let items = c.self.inside.places.items in
    let counted : c.count.result ≡ count_by is_some items = c.count.ensures
    ∙ ap (λ places. count_by is_some places) c.deref.ensures.value in
    omega (arith, counted, c.self.invariant.size, count_by-le-length is_some items)
