use Rattle.fx25_ring.proofs.Common.{◌+◌, ◌<◌, ◌^◌, ◌++◌, All, ap, map, placed, subst, sym, ◌∙◌}
use Rattle.std.proofs.lemmas.Result.{on_ok_weaker}
use Rattle.fx25_ring.proofs.LanesLemmas.{finishes}
use Rattle.fx25_ring.proofs.lanes.LanesStretchLanes.finish.Goals as goal

pub returns-clause-rest : goal.returns-clause-rest
returns-clause-rest c =
    let old = c.args.self.now in
    on_ok_weaker c.place_all.result (λ placed_all s own h.
    finishes old s own h c.in_ok-rest.rest.items c.args.items.now.items _ c.requires.step c.requires.room
    (c.in_ok-rest.ensures.rest old.receiver s.samples h.own h.tells)
    (λ fit. placed_all (subst (All (λ item. old.begin + item.end < 2 ^ 64)) (sym c.deref.ensures.value) fit)
    ∙ ap (λ l. c.args.items.now.items ++ map (placed old.begin) l) c.deref.ensures.value))
    c.place_all.ensures
