-- The steps of a station of the bench, and what its host program and the channel make of each: the program is told what
-- it is sent, and each frame that a link queues is in flight. A SABM, SABME or DISC that finds no quiet channel ends
-- the run.
use Rattle.std.specs.Prelude.{◌≡◌, ◌≢◌, ℕ, ◌<◌, ◌+◌, ◌-◌, ◌==◌, nat_lt, ◌&&◌, Bool, IsTrue, ◌↔◌, MatchBool, if◌then◌else◌}
use Rattle.std.specs.Prelude.{List, [], ◌∷◌, ◌++◌, length, All, Any, drop, position, nat_le, slice_get, true, false}
use Rattle.std.specs.Prelude.{Option, Some, None, option_map}
use Rattle.std.specs.Str.{bytes_eq}
use Rattle.frame_merge.specs.declared.candidate.Candidate.{Candidate}
use Rattle.link_world.specs.declared.end.End.{End}
use Rattle.link_world.specs.World.{other}
use Rattle.station.specs.declared.host_event.HostEvent.{HostEvent}
use Rattle.station.specs.declared.host_event.HostEvent.TheVariants.{Joined, Bytes, Left}
use Rattle.station.specs.declared.host_out.Piece.{Piece}
use Rattle.station.specs.Held.{ids_after}
use Rattle.station.specs.Host.{new_messages}
use Rattle.station.specs.State.{Accepts}
use Rattle.station.specs.Ticks.{air_of}
use Rattle.station.specs.Turn.{Turn, begin}
use Rattle.channel_bench.specs.declared.matching.SentAt.{SentAt}
use Rattle.channel_bench.specs.declared.trouble.Trouble.{Trouble}
use Rattle.channel_bench.specs.declared.trouble.Trouble.TheVariants.{Stray, Unquiet}
use Rattle.channel_bench.specs.BenchState.{SideState, Common, Near, ways_of}
use Rattle.channel_bench.specs.Hearing.{HearsStation}
use Rattle.channel_bench.specs.HostProgram.{told_all}
use Rattle.station_laws.specs.InFlight.{BothWays, LinkFrame, hears_ask, hearing_at, is_quiet_at, queueing_at, sent_by}
use Rattle.station_laws.specs.InFlight.Moment.{Steps}
use Rattle.station_laws.specs.JointRun.{Input, IsTurn, HasOctets, Step}
use Rattle.station_laws.specs.JointRun.Input.{FromHost, OffAir, OfClock}

-- ---- what the host program is sent

-- the connection of the host program
abbrev pub program_id : ℕ
program_id = 1

abbrev pub told_octets : List ℕ → SideState → SideState
told_octets octets side = record side {
  stream = side.stream ++ octets;
  program = told_all (new_messages side.stream octets) side.program;
}

-- what other connections are sent is dropped
abbrev pub told_piece : Piece → SideState → SideState
told_piece piece side = if piece.id == program_id then told_octets piece.octets side else side

abbrev pub told_pieces : List Piece → SideState → SideState
told_pieces [] side = side
told_pieces (piece ∷ pieces) side = told_pieces pieces (told_piece piece side)

-- ---- the channel

-- how many frames both stations have queued
abbrev pub count_of : BothWays → ℕ
count_of ways = length ways.from_a.queued + length ways.from_b.queued

-- The number of the first of these frames that finds no quiet channel, among all that both stations queued, from 1.
abbrev pub first_unquiet : End → Bool → List (List ℕ) → BothWays → Option ℕ
first_unquiet sender on_ask [] ways = None
first_unquiet sender on_ask (octets ∷ rest) ways =
    if is_quiet_at sender octets ways then first_unquiet sender on_ask rest (queueing_at sender on_ask octets ways)
    else Some (count_of ways + 1)

abbrev pub trouble_of : Option ℕ → Option Trouble
trouble_of index = option_map Unquiet index

-- ---- a step

-- the connections that are there after a step
abbrev pub there_after : Input → List ℕ → List ℕ → List ℕ
there_after (FromHost event) closed there = ids_after event closed there
there_after (OffAir octets) closed there = there
there_after (OfClock busy) closed there = there

abbrev pub stepped_side : Step → SideState → SideState
stepped_side step side =
    told_pieces step.after.out.pieces
    (record side { station = step.after.now; there = there_after step.input step.after.out.closed side.there })

abbrev pub stepped_common : Step → Option ℕ → Common → Common
stepped_common step matched common = record common {
  moments = common.moments ++ Steps step matched ∷ [];
  trouble = trouble_of (first_unquiet step.station (hears_ask step.input) step.after.out.queued
      (hearing_at step.station matched (ways_of common)));
}

abbrev pub stepped_near : Step → Option ℕ → Near → Near
stepped_near step matched n =
    record { side = stepped_side step n.side; common = stepped_common step matched n.common }

-- A step of a station; if it hears a frame, with the number of the frame that it is matched with.
pub record IsStep (end : End) (input : Input) (matched : Option ℕ) (before after : Near) : Type 0 where
  pub turn : Turn
  pub makes : IsTurn input (begin before.side.station) turn
  pub octets : HasOctets input
  pub is : after ≡ stepped_near
      (record {
        station = end;
        input = input;
        before = before.side.station;
        after = turn;
        turn = makes;
        octets = octets;
      })
      matched before

-- ---- what comes from hosts

-- a connection waits while so many frames wait to be sent, so that a frame by which its link calls finds room
abbrev pub most_waiting : ℕ
most_waiting = 100

-- A connection joins under an id that none has, and its octets are taken only while it is there, the station accepts
-- them, and few frames wait.
abbrev pub MayCome : HostEvent → SideState → Type 0
MayCome (Joined id kind) side = All (λ other. other ≢ id) side.there
MayCome (Bytes id octets) side = Any (λ other. other ≡ id) side.there × Accepts id side.station
    × (length side.station.channel.waiting < most_waiting)
MayCome (Left id) side = Any (λ other. other ≡ id) side.there

-- an event of a connection, which is passed over if it may not come
pub record IsTold (end : End) (event : HostEvent) (before after : Near) : Type 0 where
  pub may : Bool
  pub exactly : IsTrue may ↔ MayCome event before.side
  pub told : MatchBool may (IsStep end (FromHost event) None before after) (after ≡ before)

-- ---- a tick of the station

-- It is busy if it heard another station at the end of the tick before.
pub record IsTicking (end : End) (before after : Near) : Type 0 where
  pub busy : Bool
  pub carrier : IsTrue busy ↔ HearsStation before.side.blocks before.side.samples
  pub next : Near
  pub step : IsStep end (OfClock busy) None before next
  pub is : after ≡ record next { side = record next.side { air = air_of busy before.side.station } }

-- ---- frames that are heard

-- how far apart two places are
abbrev pub distance : ℕ → ℕ → ℕ
distance m n = (m - n) + (n - m)

-- A true end fits that of a heard frame if it is less than eight samples away. Where blocks are read it may be later:
-- a frame whose octets all come right is heard before its block has ended.
abbrev pub fits : (blocks : Bool) → ℕ → ℕ → Bool
fits false sent heard = nat_lt (distance sent heard) 8
fits true sent heard = nat_lt heard (sent + 8)

-- A frame that was sent has the octets of a heard one, and a true end that fits.
abbrev pub is_match : (blocks : Bool) → Candidate → SentAt → Bool
is_match blocks item sent = bytes_eq sent.octets item.octets && fits blocks sent.end item.end

-- the number of the first that comes after the one matched last
abbrev pub match_of : Candidate → SideState → Option ℕ
match_of item side =
    option_map (λ k. side.matched + k) (position (is_match side.blocks item) (drop side.matched side.towards))

abbrev pub is_frame_of : List ℕ → Option LinkFrame → Bool
is_frame_of octets None = false
is_frame_of octets (Some frame) = bytes_eq frame.octets octets

-- Where blocks are read, a heard frame can be the one whose sending has not ended yet: of the frames that the other
-- station has queued, the first that is not among those that it has sent.
abbrev pub is_coming : End → Candidate → Near → Bool
is_coming end item n =
    n.side.blocks && (nat_le n.side.matched (length n.side.towards)
    && is_frame_of item.octets
    (slice_get (sent_by (other end) (ways_of n.common)).queued (length n.side.towards)))

abbrev pub or_coming : Bool → ℕ → Option ℕ → Option ℕ
or_coming coming number (Some found) = Some found
or_coming coming number None = if coming then Some number else None

-- the number of the frame that a heard one is
abbrev pub number_of : End → Candidate → Near → Option ℕ
number_of end item n = or_coming (is_coming end item n) (length n.side.towards) (match_of item n.side)

abbrev pub with_stray : List ℕ → Near → Near
with_stray octets n = record n { common = record n.common { trouble = Some (Stray octets) } }

abbrev pub with_matched : ℕ → Near → Near
with_matched number n = record n { side = record n.side { matched = number + 1 } }

-- A heard frame without a match is a stray, and ends the run.
abbrev pub IsHeardAs : End → Option ℕ → List ℕ → Near → Near → Type 0
IsHeardAs end None octets before after = after ≡ with_stray octets before
IsHeardAs end (Some number) octets before after =
    IsStep end (OffAir octets) (Some number) (with_matched number before) after

abbrev pub IsHeardAt : End → Candidate → Near → Near → Type 0
IsHeardAt end item before after = IsHeardAs end (number_of end item before) item.octets before after

-- once something has ended the run, nothing more comes to pass
abbrev pub GoesOn : Option Trouble → Type 0 → Type 0 → Type 0
GoesOn None on over = on
GoesOn (Some trouble) on over = over

abbrev pub AreHeardAt : End → List Candidate → Near → Near → Type 0
AreHeardAt end [] before after = after ≡ before
AreHeardAt end (item ∷ items) before after =
    GoesOn before.common.trouble
    ((between : Near) × IsHeardAt end item before between × AreHeardAt end items between after)
    (after ≡ before)
