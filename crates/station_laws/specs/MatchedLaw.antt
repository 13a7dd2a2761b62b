-- The law on two stations of which only one ever calls, over a run whose heard frames are matched as they are heard:
-- each of the link in question with a frame that was then in flight, as far as one could know. The map of frames heard
-- to frames sent is found so, and a channel that is quiet by this wider count of what is in flight is quiet.
use Rattle.std.specs.Prelude.{◌≡◌, ℕ, ◌+◌, Bool, true, false, List, [], ◌∷◌, ◌++◌, drop, All, Option, Some, None}
use Rattle.std.specs.Prelude.{is_some}
use Rattle.std.specs.List.{list_any}
use Rattle.link_machine.specs.Event.{Event as LinkEvent}
use Rattle.link_machine.specs.Event.Event.{Connect as LinkConnect, Send as LinkSend, Disconnect as LinkDisconnect}
use Rattle.link_machine.specs.Event.Event.{Hear as LinkHear, Seize as LinkSeize, Tick as LinkTick}
use Rattle.link_machine.specs.Sent.{SentIn, sent_kind}
use Rattle.link_machine.specs.Step.{step as link_turn}
use Rattle.link_machine.specs.declared.state.LinkState.{LinkState}
use Rattle.link_machine.specs.declared.state.LinkState.TheVariants.{Idle, Calling, Up, Releasing}
use Rattle.link_world.specs.declared.end.End.{End}
use Rattle.link_world.specs.declared.end.End.TheVariants.{A, B}
use Rattle.link_world.specs.Flight.{asks as is_ask_kind}
use Rattle.link_world.specs.Windows.{WindowsFit}
use Rattle.station.specs.declared.config.Config.{Config}
use Rattle.station_laws.specs.HeardInOrder.{Pair, AreHeardInOrder}
use Rattle.station_laws.specs.InFlight.{Moment, steps_in, nothing_sent}
use Rattle.station_laws.specs.InFlight.Moment.{Steps, Passes}
use Rattle.station_laws.specs.JointRun.{Step, new_stations, IsJointRun, all_stepped, at_end}
use Rattle.station_laws.specs.LinkInFlight.{AreMatchedFor, AreQuietFor}
use Rattle.station_laws.specs.LinkOfCalls.{Calls, Pairs, link_at_end}
use Rattle.station_laws.specs.LinkSteps.{LinkStep, steps_of}
use Rattle.station_laws.specs.StationsLaw.{LinkKeepsOrder}

-- ---- the pairs that the matches make

abbrev pub is_event : List LinkStep → Bool
is_event [] = false
is_event (step ∷ steps) = true

-- of a step by its number, if it is an event of some link
abbrev pub pair_of : Bool → ℕ → Option ℕ → List Pair
pair_of false number matched = []
pair_of true number None = []
pair_of true number (Some sent) = (record { heard = number; sent = sent }) ∷ []

-- what the links of an end hear, in steps from a number on
abbrev pub pairs_from : End → ℕ → List Moment → List Pair
pairs_from hearer number [] = []
pairs_from hearer number (Steps step matched ∷ moments) =
    at_end hearer step.station (pair_of (is_event (steps_of is_some step)) number matched)
    ++ pairs_from hearer (number + 1) moments
pairs_from hearer number (Passes sender below ∷ moments) = pairs_from hearer number moments

abbrev pub pairs_in : List Moment → Pairs
pairs_in moments = record { at_a = pairs_from A 0 moments; at_b = pairs_from B 0 moments }

-- ---- what is asked of each event of the link of two calls

-- SABM, SABME or DISC, as it is sent
abbrev pub asks_when_sent : SentIn → Bool
asks_when_sent sent = is_ask_kind (sent_kind sent.modulus sent.frame)

-- Of the SABM, SABME and DISC that the event sends none finds the transmit queue full.
abbrev pub DropsNoAsk : LinkStep → Type 0
DropsNoAsk step =
    list_any asks_when_sent (drop step.joined (link_turn step.link.machine step.event).sent) ≡ false

-- What is asked of an event, by the state of the link before it. (If the first SABM of a call were dropped, an old UA
-- could answer it. While the link is up, nothing that asks or answers is in flight.)
abbrev pub FindsRoom : LinkState → LinkStep → Type 0
FindsRoom Idle step = DropsNoAsk step
FindsRoom Calling step = DropsNoAsk step
FindsRoom Up step = Unit {0}
FindsRoom Releasing step = DropsNoAsk step

abbrev pub AsksInRoom : LinkStep → Type 0
AsksInRoom step = FindsRoom step.link.machine.control.state step

-- no host connects or disconnects by it
abbrev pub IsOfNoHost : LinkEvent → Type 0
IsOfNoHost LinkConnect = ⊥
IsOfNoHost (LinkSend packet) = Unit {0}
IsOfNoHost LinkDisconnect = ⊥
IsOfNoHost (LinkHear frame) = Unit {0}
IsOfNoHost (LinkTick waiting) = Unit {0}
IsOfNoHost (LinkSeize last full) = Unit {0}

abbrev pub IsEventOfCaller : End → LinkStep → Type 0
IsEventOfCaller A step = AsksInRoom step
IsEventOfCaller B step = IsOfNoHost step.event

-- Of the link of two calls: hosts of A alone connect and disconnect, and while it is not up at A, no SABM, SABME or
-- DISC of A finds the transmit queue full.
abbrev pub OnlyACalls : Calls → List Step → Type 0
OnlyACalls calls [] = Unit {0}
OnlyACalls calls (step ∷ steps) =
    All (IsEventOfCaller step.station) (steps_of (link_at_end calls step.station) step) × OnlyACalls calls steps

-- ---- the law

-- What is heard of the link was sent before, and is heard in order and once.
abbrev pub MatchedInOrder : Type 0
MatchedInOrder =
    (moments : List Moment) (calls : Calls) → AreMatchedFor calls moments nothing_sent
    → AreHeardInOrder calls.a calls.b A (steps_in moments) (pairs_in moments).at_a
    × AreHeardInOrder calls.b calls.a B (steps_in moments) (pairs_in moments).at_b

-- Over each joint run of two new stations whose windows fit, if each heard frame of the link of two calls is matched
-- with one in flight, and each SABM, SABME and DISC of it finds a quiet channel, the link keeps the order, if only A
-- calls.
abbrev pub MatchedLaw : Type 0
MatchedLaw =
    (a b : Config) (seed_a seed_b : ℕ) (moments : List Moment) (calls : Calls)
    → let start = new_stations a seed_a b seed_b in let steps = steps_in moments in
    IsJointRun start steps → AreMatchedFor calls moments nothing_sent → AreQuietFor calls moments nothing_sent
    → WindowsFit a.params b.params → OnlyACalls calls steps
    → LinkKeepsOrder calls (pairs_in moments) a b steps (all_stepped steps start)
