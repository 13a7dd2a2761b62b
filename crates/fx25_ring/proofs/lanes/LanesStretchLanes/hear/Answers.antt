use Rattle.fx25_ring.proofs.Common.{◌≡◌, ◌+◌, ◌<◌, ◌^◌, ◌++◌, All, ap, arith, sym, subst, ◌∙◌, map, placed, refl, HeardItem, HeldAll}
use Rattle.fx25_ring.proofs.Common.{List}
use Rattle.std.specs.Prelude.{IfSome}
use Rattle.std.proofs.lemmas.Result.{on_ok_weaker}
use Rattle.fx25_ring.proofs.LanesLemmas.{brings}
use Rattle.fx25_ring.proofs.lanes.LanesStretchLanes.hear.Goals as goal

pub returns-clause-heard : goal.returns-clause-heard
returns-clause-heard c =
    let old = c.args.self.now in
    let told : List HeardItem = c.in_ok-told.told.items in
    on_ok_weaker c.place_all.result (λ placed_all s own h.
    brings old _ s own h told c.args.samples.now c.args.items.now.items _ c.requires.step refl c.requires.room
    (c.in_ok-told.ensures.told old.receiver c.block.new.self s.samples h.own
    (c.in_ok-heard.ensures.given s.samples h.own) h.tells)
    (λ fit. placed_all (subst (All (λ item. old.begin + item.end < 2 ^ 64)) (sym c.deref.ensures.value) fit)
    ∙ ap (λ l. c.args.items.now.items ++ map (placed old.begin) l) c.deref.ensures.value))
    c.place_all.ensures

pub returns-clause-listens : goal.returns-clause-listens
returns-clause-listens c =
    on_ok_weaker c.place_all.result (λ placed_all s h. record {
      flags = (c.in_ok-feed.ensures.found s.samples h.flags).0;
      own = h.own ++ c.in_ok-heard.heard.items;
      blocks = c.in_ok-heard.ensures.given s.samples h.own h.blocks;
    })
    c.place_all.ensures

pub returns-clause-step : goal.returns-clause-step
returns-clause-step c =
    let old = c.args.self.now in
    let bank = c.in_ok-feed.ensures.position in
    let eight = c.in_ok-heard.ensures.position in
    let were = c.requires.step.bank in
    on_ok_weaker c.place_all.result (λ placed_all. record {
      bank = omega arith;
      all = subst (λ n. IfSome c.tell.new.all (λ (lanes : HeldAll). lanes.follower.position ≡ n)) (sym eight)
          (c.in_ok-told.ensures.position old.receiver.position c.requires.step.all);
    })
    c.place_all.ensures
