use Rattle.station.proofs.Common.{◌∙◌, rules, arith, take_all, ap, set, length-set}
use Rattle.std.proofs.lemmas.List.{drop_all}
use Rattle.std.proofs.lemmas.List.Edits.{map_over_more}
use Rattle.station.specs.Askers.{without_asker}
use Rattle.station.proofs.asker.remove_askers.Goals as goal

pub loop-place-preserved : goal.loop-place-preserved
loop-place-preserved c =
    let items = c.loop-place.askers.items in
    let place = c.loop-place.place in
    record {
      length = length-set items place c.without-asker.result ∙ c.loop-place.invariant.length;
      items = ap (set items place) c.without-asker.ensures
          ∙ map_over_more (without_asker c.args.id) c.args.askers.now.items items place c.index.result.now (omega arith)
          c.loop-place.invariant.items c.index.ensures;
    }

pub returns : goal.returns
returns c = search (rules, take_all, drop_all)
