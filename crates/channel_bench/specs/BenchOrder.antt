-- The run of the two stations that a bench has noted, and what its host programs saw of it.
use Rattle.std.specs.Prelude.{◌≡◌, List, map, flat_map, ℕ}
use Rattle.selective_reject.specs.declared.packet.Packet.{Packet}
use Rattle.link_world.specs.declared.end.End.{End}
use Rattle.link_world.specs.declared.end.End.TheVariants.{A, B}
use Rattle.channel_bench.specs.declared.report.SetUp.{SetUp}
use Rattle.channel_bench.specs.declared.words.BenchWords.{BenchWords}
use Rattle.channel_bench.specs.BenchState.{BenchState, config_of, side_at}
use Rattle.channel_bench.specs.HostProgram.{call_at, set_ups_of}
use Rattle.station_laws.specs.InFlight.{Moment, AreQuietThrough, nothing_sent, steps_in}
use Rattle.station_laws.specs.JointRun.{Step, Stations, new_stations, IsJointRun, all_stepped}
use Rattle.station_laws.specs.LinkOfCalls.{Calls}
use Rattle.station_laws.specs.SetUpsSeen.{Seen, set_ups_seen}
use Rattle.channel_bench.specs.Words.{seed_at}

-- the calls of the two stations
abbrev pub the_calls : Calls
the_calls = record { a = call_at A; b = call_at B }

abbrev pub stations_of : BenchState → Stations
stations_of bench = record { a = bench.a.station; b = bench.b.station }

abbrev pub first_stations : BenchWords → Stations
first_stations w = new_stations (config_of w) (seed_at w A) (config_of w) (seed_at w B)

-- the steps of both stations
abbrev pub steps_of_run : BenchState → List Step
steps_of_run bench = steps_in bench.common.moments

-- The steps of these moments are a joint run, and it ends in the states that the stations have. Each SABM, SABME and
-- DISC found a quiet channel.
pub record IsNoted (w : BenchWords) (moments : List Moment) (s : Stations) : Type 0 where
  pub run : IsJointRun (first_stations w) (steps_in moments)
  pub now : all_stepped (steps_in moments) (first_stations w) ≡ s
  pub quiet : AreQuietThrough moments nothing_sent

-- packets as octets
abbrev pub octets_in : List Packet → List ℕ
octets_in packets = flat_map (λ (packet : Packet). packet.octets) packets

abbrev pub set_up_of : Seen → SetUp
set_up_of q = record { given = octets_in q.given; got = octets_in q.got }

-- The host program of a side saw the set-ups of the link at its station.
abbrev pub SawSetUps : End → BenchState → Type 0
SawSetUps end bench =
    set_ups_of (side_at end bench).program ≡ map set_up_of (set_ups_seen the_calls end (steps_of_run bench))
