-- The steps that a station makes in a live run, in order: what each takes, and the turn that it makes of it. They are
-- told from the run turn by turn: frames that are heard, ticks, what hosts send, and hosts that leave or are shut.
use mathlib.Core.Logic.{inl, inr}
use Rattle.std.specs.Prelude.{ℕ, zero, suc, ◌||◌, Bool, true, false, List, [], ◌∷◌, ◌++◌, Option, Some, None}
use Rattle.frame_merge.specs.declared.candidate.Candidate.{Candidate}
use Rattle.station.specs.declared.host_event.HostEvent.{HostEvent}
use Rattle.station.specs.declared.host_event.HostEvent.TheVariants.{Joined, Bytes, Left}
use Rattle.station.specs.declared.host_event.PortKind.{PortKind}
use Rattle.station.specs.State.{StationState}
use Rattle.station.specs.Turn.{Turn, begin}
use Rattle.station_laws.specs.JointRun.{Input, IsTurn}
use Rattle.station_laws.specs.JointRun.Input.{FromHost, OffAir, OfClock}
use Rattle.host_ports.specs.declared.client.Client.{Client}
use Rattle.tnc_ports.specs.declared.serve_words.ServeWords.{ServeWords}
use Rattle.host_ports.specs.declared.untaken.Untaken.{Untaken}
use Rattle.host_ports.specs.Hosts.{Hosts, IsDelivered, IsStep, HaveLeft, FirstHasLeft, AllHaveLeft, cutting, client_of, without}
use Rattle.host_ports.specs.HostTurns.{Asked, InOrder, AreTaken, HasJoined, HasLeft, IsTaken, IsTried, joining}
use Rattle.host_ports.specs.HostTurns.{IsHostPart, IsOffered, IsOfferedTo, Offering, ids_of_clients}
use Rattle.host_ports.specs.CutPart.{IsCutPart}
use Rattle.tnc_ports.specs.KeyTurns.{is_held}
use Rattle.tnc_ports.specs.Sampled.{Live, new_live, AreHeard, HearsAll, IsTicked, AreTicked, MakesAll}
use Rattle.tnc_ports.specs.Sampled.{IsTurn as IsLiveTurn}
use Rattle.tnc_ports.specs.SampledFrames.{with_lines}
use Rattle.tnc_ports.specs.SampledRun.{AreTurns, IsRun, IsCutRun, IsCutTurn, AreAskedInTurns}

-- a step of a station
pub record OwnStep : Type 0 where
  pub input : Input
  pub before : StationState
  pub after : Turn
  pub turn : IsTurn input (begin before) after

-- ---- one step, and those of which its connections left

-- the turn of a step that is delivered
abbrev pub turn_made : {step : Turn → Turn → Type 0} → (before after : Hosts) → IsDelivered step before after → Turn
turn_made before after h = record { now = h.next; out = h.out }

abbrev pub delivered_step :
    {step : Turn → Turn → Type 0} → (input : Input) → (before after : Hosts) → (h : IsDelivered step before after)
    → IsTurn input (begin before.station) (turn_made before after h) → OwnStep
delivered_step input before after h turn =
    record { input = input; before = before.station; after = turn_made before after h; turn = turn }

-- the station is told that a connection left which was shut
abbrev pub left_step : (before after : Hosts) → FirstHasLeft before after → OwnStep
left_step before after h = delivered_step (FromHost (Left h.id)) (without h.id before) after h.told h.told.made

abbrev pub left_steps : (count : ℕ) → (before after : Hosts) → HaveLeft count before after → List OwnStep
left_steps zero before after h = []
left_steps (suc count) before after h = left_steps count before h.0 h.1 ++ left_step h.0 after h.2 ∷ []

abbrev pub all_left_steps : (before after : Hosts) → AllHaveLeft before after → List OwnStep
all_left_steps before after h = left_steps h.count before after h.have_left

abbrev pub steps_of_step :
    {step : Turn → Turn → Type 0} → (input : Input) → (before after : Hosts) → (h : IsStep step before after)
    → IsTurn input (begin before.station) (turn_made before h.between h.delivers) → List OwnStep
steps_of_step input before after h turn =
    delivered_step input before h.between h.delivers turn ∷ all_left_steps h.between after h.leave

-- ---- frames and ticks

abbrev pub heard_steps : (monitor : Bool) → (items : List Candidate) → (before after : Hosts)
    → AreHeard monitor items before after → List OwnStep
heard_steps monitor [] before after h = []
heard_steps monitor (item ∷ items) before after h =
    steps_of_step (OffAir item.octets) (with_lines h.1.lines before) h.0 h.1.step h.1.step.delivers.made
    ++ heard_steps monitor items h.0 after h.2

abbrev pub tick_steps : (words : ServeWords) → (busy : Bool) → (before after : Live) → IsTicked words busy before after
    → List OwnStep
tick_steps words busy before after h =
    steps_of_step (OfClock (busy || is_held words.key before.keyed)) before.hosts h.step.ticked h.step.step.step
    h.step.step.step.delivers.made

abbrev pub ticks_steps : (words : ServeWords) → (busy : Bool) → (count : ℕ) → (before after : Live)
    → AreTicked words busy count before after → List OwnStep
ticks_steps words busy zero before after h = []
ticks_steps words busy (suc count) before after h =
    tick_steps words busy before h.0 h.1 ++ ticks_steps words busy count h.0 after h.2

abbrev pub hearing_steps : (words : ServeWords) → (ended : Bool) → (before after : Live)
    → HearsAll words ended before after → List OwnStep
hearing_steps words ended before after h = heard_steps words.monitor h.items h.read.hosts h.hosts h.hears

abbrev pub making_steps : (words : ServeWords) → (ended : Bool) → (before after : Live)
    → MakesAll words ended before after → List OwnStep
making_steps words ended before after h =
    hearing_steps words ended before h.heard h.hears
    ++ ticks_steps words h.makes.busy h.count h.keyed after h.makes.made

-- ---- what hosts send

abbrev pub taken_steps : (id : ℕ) → (octets : List ℕ) → (before after : Hosts) → AreTaken id octets before after
    → List OwnStep
taken_steps id octets before after (inl gone) = []
taken_steps id octets before after (inr (inl waits)) = []
taken_steps id octets before after (inr (inr taken)) =
    steps_of_step (FromHost (Bytes id octets)) before after taken.2 taken.2.delivers.made

abbrev pub tried_steps : (items : List Untaken) → (before after : Hosts) → InOrder IsTried items before after
    → List OwnStep
tried_steps [] before after h = []
tried_steps (one ∷ items) before after h =
    taken_steps one.id one.octets before h.0 h.1 ++ tried_steps items h.0 after h.2

abbrev pub joined_steps : (id : ℕ) → (kind : PortKind) → (before after : Hosts) → HasJoined id kind before after
    → List OwnStep
joined_steps id kind before after (inl known) = []
joined_steps id kind before after (inr joined) =
    steps_of_step (FromHost (Joined id kind)) (joining id before) after joined.1 joined.1.delivers.made

abbrev pub gone_steps : (id : ℕ) → (before after : Hosts) → HasLeft id before after → List OwnStep
gone_steps id before after (inl gone) = []
gone_steps id before after (inr left) =
    steps_of_step (FromHost (Left id)) (without id before) after left.1 left.1.delivers.made

abbrev pub event_steps : (event : HostEvent) → (before after : Hosts) → IsTaken event before after → List OwnStep
event_steps (Joined id kind) before after h = joined_steps id kind before after h
event_steps (Bytes id octets) before after h = taken_steps id octets before after h
event_steps (Left id) before after h = gone_steps id before after h

abbrev pub events_steps : (events : List HostEvent) → (before after : Hosts) → InOrder IsTaken events before after
    → List OwnStep
events_steps [] before after h = []
events_steps (event ∷ events) before after h =
    event_steps event before h.0 h.1 ++ events_steps events h.0 after h.2

-- ---- what hosts are sent: one whose send fails leaves

abbrev pub client_steps : (client : Option Client) → (before after : Offering) → IsOfferedTo client before after → List OwnStep
client_steps None before after h = []
client_steps (Some client) before after (inl none) = []
client_steps (Some client) before after (inr (inl takes)) = []
client_steps (Some client) before after (inr (inr fails)) =
    all_left_steps (cutting client.id before.hosts) after.hosts fails.1.leave

abbrev pub offered_steps : (ids : List ℕ) → (before after : Offering) → InOrder IsOffered ids before after
    → List OwnStep
offered_steps [] before after h = []
offered_steps (id ∷ ids) before after h =
    client_steps (client_of id before.hosts.clients) before h.0 h.1 ++ offered_steps ids h.0 after h.2

-- what waited, what came, and the first of the connections that are offered something
abbrev pub sending_steps :
    (before tried taken : Hosts) → (events : List HostEvent) → (ids : List ℕ) → (offered : Offering)
    → InOrder IsTried before.untaken (record before { untaken = [] }) tried → InOrder IsTaken events tried taken
    → InOrder IsOffered ids (record { hosts = taken; offers = []; failed = [] }) offered → List OwnStep
sending_steps before tried taken events ids offered tries takes offers =
    tried_steps before.untaken (record before { untaken = [] }) tried tries
    ++ (events_steps events tried taken takes
    ++ offered_steps ids (record { hosts = taken; offers = []; failed = [] }) offered offers)

abbrev pub host_part_steps : (asked : Asked) → (before after : Hosts) → IsHostPart asked before after → List OwnStep
host_part_steps asked before after h =
    sending_steps before h.tried h.taken asked.events (ids_of_clients h.taken.clients) h.offered h.tries h.takes h.offers

-- The part for hosts is cut short. What was taken before memory was wanted is no part of the run then.
abbrev pub cut_part_steps : (asked : Asked) → (before reached : Hosts) → IsCutPart asked before reached → List OwnStep
cut_part_steps asked before reached (inl taking) = []
cut_part_steps asked before reached (inr (inl h)) =
    sending_steps before h.tried h.taken asked.events h.first h.offered h.tries h.takes h.offers
cut_part_steps asked before reached (inr (inr h)) =
    sending_steps before h.tried h.taken asked.events (ids_of_clients h.taken.clients) h.offered h.tries h.takes h.offers

-- ---- turns

abbrev pub turn_steps : (words : ServeWords) → (ended : Bool) → (before after : Live)
    → IsLiveTurn words ended before after → List OwnStep
turn_steps words ended before after h =
    making_steps words ended before h.made h.makes
    ++ host_part_steps h.serves.asked h.made.hosts h.serves.hosts h.serves.part

abbrev pub turns_steps : (words : ServeWords) → (count : ℕ) → (before after : Live)
    → AreTurns words count before after → List OwnStep
turns_steps words zero before after h = []
turns_steps words (suc count) before after h =
    turn_steps words false before h.0 h.1 ++ turns_steps words count h.0 after h.2

-- a whole run
abbrev pub steps_of_run : (words : ServeWords) → (live : Live) → IsRun words live → List OwnStep
steps_of_run words live h =
    turns_steps words h.count (new_live words) h.last h.turns ++ turn_steps words true h.last live h.over

-- a turn that is cut short before it serves its hosts
abbrev pub cut_steps : (words : ServeWords) → (before after : Live) → IsCutTurn words before after → List OwnStep
cut_steps words before after (inl reading) = []
cut_steps words before after (inr (inl hearing)) =
    heard_steps words.monitor hearing.items hearing.read.hosts hearing.hosts hearing.hears
cut_steps words before after (inr (inr (inl ticking))) =
    hearing_steps words ticking.ended before ticking.heard ticking.hears
    ++ ticks_steps words ticking.makes.busy ticking.count ticking.keyed after ticking.makes.made
cut_steps words before after (inr (inr (inr serving))) = making_steps words serving.0 before after serving.1

-- the last turn of a run that is cut short, perhaps while it serves its hosts
abbrev pub last_steps : (words : ServeWords) → (last live : Live) → (turns : List Asked) → (reached : Hosts)
    → IsCutTurn words last live → AreAskedInTurns words last live turns reached → List OwnStep
last_steps words last live turns reached cut (inl whole) = cut_steps words last live cut
last_steps words last live turns reached cut (inr serving) =
    making_steps words serving.1.ended last live serving.1.makes
    ++ cut_part_steps serving.0 live.hosts reached serving.1.part

-- a run that is cut short
abbrev pub steps_of_cut_run : (words : ServeWords) → (live : Live) → (turns : List Asked) → (reached : Hosts)
    → (h : IsCutRun words live) → AreAskedInTurns words h.last live turns reached → List OwnStep
steps_of_cut_run words live turns reached h asked =
    turns_steps words h.count (new_live words) h.last h.turns ++ last_steps words h.last live turns reached h.cut asked
