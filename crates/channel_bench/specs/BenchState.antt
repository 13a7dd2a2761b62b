-- The state of the bench: two stations, A and B, each with its host program and the samples that reached it so far, and
-- what came to pass between them.
use Rattle.std.specs.Prelude.{◌≡◌, ℕ, Bool, false, ℤ, pos, List, [], replicate, is_some, Option, Some, None}
use Rattle.rand_pcg.specs.Lcg.{Lcg}
use Rattle.channel_access.specs.declared.air_tick.AirTick.{AirTick}
use Rattle.channel_access.specs.declared.modem.CheckOctets.{CheckOctets}
use Rattle.channel_access.specs.declared.modem.Modem.{Modem}
use Rattle.channel_access.specs.declared.modem.Modem.TheVariants.{Bell202, Fx25}
use Rattle.link_machine.specs.declared.params.Params.{Params}
use Rattle.link_world.specs.declared.end.End.{End}
use Rattle.link_world.specs.declared.end.End.TheVariants.{A, B}
use Rattle.selective_reject.specs.declared.window.Mode.TheVariants.{Srej}
use Rattle.station.specs.declared.config.Config.{Config}
use Rattle.station.specs.State.{StationState, new_station, usual_config}
use Rattle.channel_bench.specs.declared.matching.SentAt.{SentAt}
use Rattle.channel_bench.specs.declared.trouble.Trouble.{Trouble}
use Rattle.channel_bench.specs.declared.words.BenchWords.{BenchWords}
use Rattle.channel_bench.specs.HostProgram.{ProgramState, new_program}
use Rattle.station_laws.specs.InFlight.{Moment, BothWays, after_moments, nothing_sent}
use Rattle.channel_bench.specs.Words.{loss_stream, seed_at}
use Rattle.channel_access.specs.Words.{generator_of}

-- a station
pub record SideState : Type 0 where
  pub station : StationState
  -- it hears frames in blocks of FX.25, too
  pub blocks : Bool
  -- the connections of hosts that are there
  pub there : List ℕ
  -- all octets that the host program was sent, and what it knows
  pub stream : List ℕ
  pub program : ProgramState
  -- the samples that reached the station
  pub samples : List ℤ
  -- The frames that the other station has sent, as the ends of their sending came, each with its true end: the first
  -- sample past the flag that follows it, counted from the beginning of the run.
  pub towards : List SentAt
  -- one past the number of that frame which was matched last
  pub matched : ℕ
  -- what the station sends in this tick
  pub air : AirTick
  -- the transmission that it sends, or that it sent last, is lost
  pub silenced : Bool

-- what came to pass between the two
pub record Common : Type 0 where
  -- the steps of both stations with their matches, and what has passed
  pub moments : List Moment
  -- the words of losses and of noise
  pub draws : Lcg
  -- how many transmissions began, and how many of them were lost
  pub transmissions : ℕ
  pub lost : ℕ
  -- what ended the run before it was over
  pub trouble : Option Trouble

pub record BenchState : Type 0 where
  pub a : SideState
  pub b : SideState
  pub common : Common
  -- how many ticks are made
  pub ticks : ℕ
  -- A has sent d
  pub closing : Bool

-- what is in flight
abbrev pub ways_of : Common → BothWays
ways_of common = after_moments common.moments nothing_sent

-- ---- before the first tick

-- Both stations ask for lost frames by SREJ, with a window of 4, or of 32 if they count modulo 128, wait two seconds for
-- an answer and ask again ten times at most, and repeat for nobody.
abbrev pub params_of : BenchWords → Params
params_of w = record {
  mode = Srej;
  window = 4;
  wide = w.wide;
  wide_mode = Srej;
  wide_window = 32;
  t1 = 200;
  retries = 10;
}

-- Frames are sent plainly, or with so many check octets around each that fits into a block.
abbrev pub modem_of : Option CheckOctets → Modem
modem_of None = Bell202
modem_of (Some checks) = Fx25 checks

abbrev pub config_of : BenchWords → Config
config_of w = record (usual_config (params_of w) None) { modem = modem_of w.checks }

abbrev pub no_air : AirTick
no_air = record { samples = replicate 96 (pos 0); began = false; sent = None }

abbrev pub new_side : BenchWords → End → SideState
new_side w end = record {
  station = new_station (config_of w) (seed_at w end);
  blocks = is_some w.checks;
  there = [];
  stream = [];
  program = new_program;
  samples = [];
  towards = [];
  matched = 0;
  air = no_air;
  silenced = false;
}

abbrev pub new_common : BenchWords → Common
new_common w = record {
  moments = [];
  draws = generator_of w.seed loss_stream;
  transmissions = 0;
  lost = 0;
  trouble = None;
}

abbrev pub new_bench : BenchWords → BenchState
new_bench w =
    record { a = new_side w A; b = new_side w B; common = new_common w; ticks = 0; closing = false }

-- ---- one station, and what both share

pub record Near : Type 0 where
  pub side : SideState
  pub common : Common

abbrev pub side_at : End → BenchState → SideState
side_at A bench = bench.a
side_at B bench = bench.b

abbrev pub with_side : End → SideState → BenchState → BenchState
with_side A side bench = record bench { a = side }
with_side B side bench = record bench { b = side }

abbrev pub near : End → BenchState → Near
near end bench = record { side = side_at end bench; common = bench.common }

abbrev pub with_near : End → Near → BenchState → BenchState
with_near end n bench = record (with_side end n.side bench) { common = n.common }

-- what comes to pass at one of the stations
pub record AtEnd (end : End) (part : Near → Near → Type 0) (before after : BenchState) : Type 0 where
  pub next : Near
  pub step : part (near end before) next
  pub is : after ≡ with_near end next before
