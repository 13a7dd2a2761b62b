use Rattle.std.proofs.Common.{rules, tests}
use Rattle.std.proofs.lemmas.Iterator.{YieldsList-from_slice}
use Rattle.std.proofs.lemmas.Iterator.Search.{find_from_yields_List}
use Rattle.frame_monitor.specs.HeardStations.{is_of_call}
use Rattle.frame_monitor.proofs.heard_station.heard_of.Goals as goal

pub returns : goal.returns
returns c =
    find_from_yields_List (is_of_call c.args.call.now) _ _ _ c.find.ensures.ran
    (YieldsList-from_slice c.args.heard.now cc) (λ x b q k. search (rules, tests))
