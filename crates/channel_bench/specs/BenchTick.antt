-- One tick of the bench, part by part: the hosts, the two stations, the channel, and what is heard.
use Rattle.std.specs.Prelude.{◌≡◌, ℕ, ◌==◌, ◌&&◌, not, Bool, true, IsTrue, ◌↔◌, MatchBool, if◌then◌else◌, List, []}
use Rattle.std.specs.Prelude.{◌∷◌, ◌++◌, Option, Some, None}
use Rattle.frame_merge.specs.declared.candidate.Candidate.{Candidate}
use Rattle.link_world.specs.declared.end.End.{End}
use Rattle.link_world.specs.declared.end.End.TheVariants.{A, B}
use Rattle.station.specs.declared.host_event.HostEvent.{HostEvent}
use Rattle.station.specs.declared.host_event.HostEvent.TheVariants.{Joined, Bytes}
use Rattle.station.specs.declared.host_event.PortKind.TheVariants.{Kiss, Agw}
use Rattle.channel_bench.specs.declared.words.BenchWords.{BenchWords}
use Rattle.channel_bench.specs.BenchState.{SideState, BenchState, Near, AtEnd}
use Rattle.channel_bench.specs.BenchSteps.{program_id, MayCome, IsStep, IsTold, IsTicking, AreHeardAt, GoesOn}
use Rattle.channel_bench.specs.Hearing.{AreReady}
use Rattle.channel_bench.specs.HostProgram.{next_piece, giving, has_all, asking, waiting, calling, register_octets}
use Rattle.channel_bench.specs.HostProgram.{connect_octets, data_octets, disconnect_octets, full_duplex_octets}
use Rattle.station_laws.specs.JointRun.Input.{FromHost}
use Rattle.channel_bench.specs.Sounding.{sounding, ticked}
use Rattle.channel_bench.specs.Words.{text_at}

-- ---- hosts

-- the station takes octets of its host program
abbrev pub AcceptsProgram : SideState → Type 0
AcceptsProgram side = MayCome (Bytes program_id []) side

-- the host program says something, and what it knows changes with that
abbrev pub Says : End → List ℕ → Near → Near → Type 0
Says end octets = IsStep end (FromHost (Bytes program_id octets)) None

abbrev pub with_giving : List ℕ → Near → Near
with_giving piece n = record n { side = record n.side { program = giving piece n.side.program } }

abbrev pub IsGivenPiece : End → Option (List ℕ) → Near → Near → Type 0
IsGivenPiece end None before after = after ≡ before
IsGivenPiece end (Some piece) before after = Says end (data_octets end piece) (with_giving piece before) after

-- If the station takes it, the next piece of the text is given.
pub record IsGiven (w : BenchWords) (end : End) (before after : Near) : Type 0 where
  pub accepts : Bool
  pub exactly : IsTrue accepts ↔ AcceptsProgram before.side
  pub given : MatchBool accepts (IsGivenPiece end (next_piece (text_at w end) before.side.program.running) before after)
      (after ≡ before)

-- A set-up runs at both sides, each has given all and got all in its own, and A has not sent d in it.
abbrev pub is_complete : BenchWords → BenchState → Bool
is_complete w bench =
    not bench.a.program.asked && (has_all w.octets bench.a.program && has_all w.octets bench.b.program)

-- A sends d
abbrev pub with_asking : BenchState → BenchState
with_asking bench = record bench {
  a = record bench.a { program = asking bench.a.program };
  b = record bench.b { program = waiting bench.b.program };
  closing = true;
}

abbrev pub IsAsked : BenchState → BenchState → Type 0
IsAsked before after = AtEnd A (Says A (disconnect_octets A)) (with_asking before) after

-- A sends C again
abbrev pub with_calling : BenchState → BenchState
with_calling bench = record bench { a = record bench.a { program = calling bench.a.program } }

abbrev pub IsCalled : BenchState → BenchState → Type 0
IsCalled before after = AtEnd A (Says A (connect_octets A)) (with_calling before) after

-- If A's station takes it, A sends d once all is given and got, and C again once it was told d without having sent one.
pub record IsAskedOrCalled (w : BenchWords) (before after : BenchState) : Type 0 where
  pub accepts : Bool
  pub exactly : IsTrue accepts ↔ AcceptsProgram before.a
  pub sent : MatchBool accepts
      (MatchBool (is_complete w before) (IsAsked before after)
      (MatchBool before.a.program.calls (IsCalled before after) (after ≡ before)))
      (after ≡ before)

-- ---- what is heard

pub record IsListening (end : End) (before after : Near) : Type 0 where
  pub items : List Candidate
  pub ready : AreReady before.side.blocks before.side.samples items
  pub heard : AreHeardAt end items before after

-- ---- the parts of a tick

pub data Part : Type 0 where
  -- an event of a connection
  Tells : (end : End) → (event : HostEvent) → Part
  -- the host program gives the next piece of its text
  Gives : (end : End) → Part
  -- A sends d, or C again
  AsksOrCalls : Part
  -- a station ticks
  Ticks : (end : End) → Part
  -- what both send reaches them
  Sounds : Part
  -- a station hears the frames that are ready
  Listens : (end : End) → Part
  -- the tick ends
  Closes : Part

abbrev pub IsPart : BenchWords → Part → BenchState → BenchState → Type 0
IsPart w (Tells end event) before after = AtEnd end (IsTold end event) before after
IsPart w (Gives end) before after = AtEnd end (IsGiven w end) before after
IsPart w AsksOrCalls before after = IsAskedOrCalled w before after
IsPart w (Ticks end) before after = AtEnd end (IsTicking end) before after
IsPart w Sounds before after = after ≡ sounding w before
IsPart w (Listens end) before after = AtEnd end (IsListening end) before after
IsPart w Closes before after = after ≡ ticked before

-- parts one after another, until something ends the run
abbrev pub ArePartsMade : BenchWords → List Part → BenchState → BenchState → Type 0
ArePartsMade w [] before after = after ≡ before
ArePartsMade w (part ∷ parts) before after =
    GoesOn before.common.trouble
    ((between : BenchState) × IsPart w part before between × ArePartsMade w parts between after)
    (after ≡ before)

-- ---- a tick

-- the connection by which full duplex is set
abbrev pub kiss_id : ℕ
kiss_id = 2

unfoldable pub sets_full_duplex : End → List Part
sets_full_duplex end = Tells end (Joined kiss_id Kiss) ∷ Tells end (Bytes kiss_id full_duplex_octets) ∷ []

unfoldable pub joins : End → List Part
joins end = Tells end (Joined program_id Agw) ∷ Tells end (Bytes program_id (register_octets end)) ∷ []

unfoldable pub sets_duplex : BenchWords → List Part
sets_duplex w = if w.full then sets_full_duplex A ++ sets_full_duplex B else []

-- Before all else in the first tick both stations are set to full duplex, if the words ask for it; each host program
-- joins and registers the call of its station; and A calls.
unfoldable pub beginning : BenchWords → List Part
beginning w =
    sets_duplex w ++ (joins A ++ (joins B ++ Tells A (Bytes program_id (connect_octets A)) ∷ []))

unfoldable pub each_tick : List Part
each_tick =
    Gives A ∷ AsksOrCalls ∷ Gives B ∷ Ticks A ∷ Ticks B ∷ Sounds ∷ Listens A ∷ Listens B ∷ Closes ∷ []

abbrev pub parts_of : BenchWords → ℕ → List Part
parts_of w tick = if tick == 0 then beginning w ++ each_tick else each_tick

unfoldable pub IsTick : BenchWords → BenchState → BenchState → Type 0
IsTick w before after = ArePartsMade w (parts_of w before.ticks) before after
