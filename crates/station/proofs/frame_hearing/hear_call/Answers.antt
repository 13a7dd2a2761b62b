use Rattle.station.proofs.Common.{◌≡◌}
use Rattle.frame_monitor.specs.HeardStations.{hearing_station}
use Rattle.station.proofs.MemoryLemmas.{took_on}
use Rattle.station.proofs.frame_hearing.hear_call.Goals as goal

pub returns-clause-heard : goal.returns-clause-heard
returns-clause-heard c =
    took_on (c.hear_station-took.new.heard.items ≡ hearing_station c.args.call.now c.args.ticks c.args.heard.now.items)
    c.hear_station-took.result c.took.result c.took.ensures.value c.hear_station-took.ensures
