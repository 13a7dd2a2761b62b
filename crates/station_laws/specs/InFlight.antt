-- What is in flight between two stations, to someone who sees which sent frame each heard one is, but who cannot know
-- beforehand which will be heard. A frame of a link is in flight from the moment at which it joins the transmit queue
-- until it is heard, a later one of its direction is heard, or it has passed the other station. So of each direction
-- the frames from a number on are in flight.
use Rattle.std.specs.Prelude.{◌≡◌, ℕ, ◌+◌, ◌≤◌, ◌%◌, ◌==◌, ◌||◌, ◌&&◌, max, not, Bool, false, if◌then◌else◌, List, []}
use Rattle.std.specs.Prelude.{◌∷◌, ◌++◌, length, drop, slice_get, Option, Some, None, IsTrue}
use Rattle.std.specs.List.{list_any}
use Rattle.link_world.specs.declared.end.End.{End}
use Rattle.link_world.specs.declared.end.End.TheVariants.{A, B}
use Rattle.link_world.specs.World.{other}
use Rattle.station_laws.specs.JointRun.{Input, Step}
use Rattle.station_laws.specs.JointRun.Input.{FromHost, OffAir, OfClock}

-- ---- a run with its matches

-- a moment of a joint run
pub data Moment : Type 0 where
  -- A step. If it hears a frame: which one that is of the frames that links of the other station queued, by its number
  -- from 0.
  Steps : (step : Step) → (matched : Option ℕ) → Moment
  -- Those that links of a station queued, with a lower number, have passed the other station.
  Passes : (sender : End) → (below : ℕ) → Moment

-- the steps alone
abbrev pub steps_in : List Moment → List Step
steps_in [] = []
steps_in (Steps step matched ∷ moments) = step ∷ steps_in moments
steps_in (Passes sender below ∷ moments) = steps_in moments

-- ---- the frames that the rule asks for

abbrev pub first_of : List ℕ → Option ℕ
first_of [] = None
first_of (octet ∷ octets) = Some octet

-- the octet after the address field, whose last octet alone has bit 0 set (AX.25 2.2 section 3.12)
abbrev pub control_octet : List ℕ → Option ℕ
control_octet [] = None
control_octet (octet ∷ octets) = if octet % 2 == 1 then first_of octets else control_octet octets

-- the control octets of SABM, SABME, DISC, UA and DM whose P/F bit is 0 (section 4.3.3)
abbrev pub sabm : ℕ
sabm = 0x2f

abbrev pub sabme : ℕ
sabme = 0x6f

abbrev pub disc : ℕ
disc = 0x43

abbrev pub ua : ℕ
ua = 0x63

abbrev pub dm : ℕ
dm = 0x0f

-- with that bit or without
abbrev pub is_control_of : ℕ → ℕ → Bool
is_control_of which octet = (octet == which) || (octet == which + 16)

abbrev pub is_ask_control : Option ℕ → Bool
is_ask_control None = false
is_ask_control (Some octet) = is_control_of sabm octet || (is_control_of sabme octet || is_control_of disc octet)

abbrev pub is_answer_control : Option ℕ → Bool
is_answer_control None = false
is_answer_control (Some octet) = is_control_of ua octet || is_control_of dm octet

-- a frame is SABM, SABME or DISC
abbrev pub is_ask : List ℕ → Bool
is_ask octets = is_ask_control (control_octet octets)

-- a frame is UA or DM
abbrev pub is_ua_or_dm : List ℕ → Bool
is_ua_or_dm octets = is_answer_control (control_octet octets)

-- a step hears SABM, SABME or DISC
abbrev pub hears_ask : Input → Bool
hears_ask (FromHost event) = false
hears_ask (OffAir octets) = is_ask octets
hears_ask (OfClock busy) = false

-- ---- in flight

-- a frame that a link queued, and whether its station heard SABM, SABME or DISC in that step
pub record LinkFrame : Type 0 where
  pub octets : List ℕ
  pub on_ask : Bool

-- one direction: the frames that links of a station have queued, and the number from which on they are in flight
pub record OneWay : Type 0 where
  pub queued : List LinkFrame
  pub front : ℕ

-- both, by their senders
pub record BothWays : Type 0 where
  pub from_a : OneWay
  pub from_b : OneWay

-- before the first step
abbrev pub nothing_sent : BothWays
nothing_sent = record { from_a = record { queued = []; front = 0 }; from_b = record { queued = []; front = 0 } }

abbrev pub sent_by : End → BothWays → OneWay
sent_by A ways = ways.from_a
sent_by B ways = ways.from_b

abbrev pub with_sent_by : End → OneWay → BothWays → BothWays
with_sent_by A way ways = record ways { from_a = way }
with_sent_by B way ways = record ways { from_b = way }

abbrev pub in_flight : OneWay → List LinkFrame
in_flight way = drop way.front way.queued

-- a frame joins the transmit queue
abbrev pub with_queued : LinkFrame → OneWay → OneWay
with_queued frame way = record way { queued = way.queued ++ frame ∷ [] }

-- those below a number are in flight no longer
abbrev pub with_front : ℕ → OneWay → OneWay
with_front number way = record way { front = max way.front number }

-- a frame is heard, and is in flight no longer, nor is an earlier one
abbrev pub past_heard : Option ℕ → OneWay → OneWay
past_heard None way = way
past_heard (Some number) way = with_front (number + 1) way

abbrev pub queueing_at : End → Bool → List ℕ → BothWays → BothWays
queueing_at sender on_ask octets ways =
    with_sent_by sender (with_queued (record { octets = octets; on_ask = on_ask }) (sent_by sender ways)) ways

-- the frames of a step join, one after another
abbrev pub queueing_all : End → Bool → List (List ℕ) → BothWays → BothWays
queueing_all sender on_ask [] ways = ways
queueing_all sender on_ask (octets ∷ rest) ways = queueing_all sender on_ask rest
    (queueing_at sender on_ask octets ways)

abbrev pub hearing_at : End → Option ℕ → BothWays → BothWays
hearing_at hearer matched ways =
    with_sent_by (other hearer) (past_heard matched (sent_by (other hearer) ways)) ways

-- after a moment
abbrev pub after_moment : Moment → BothWays → BothWays
after_moment (Steps step matched) ways =
    queueing_all step.station (hears_ask step.input) step.after.out.queued (hearing_at step.station matched ways)
after_moment (Passes sender below) ways = with_sent_by sender (with_front below (sent_by sender ways)) ways

abbrev pub after_moments : List Moment → BothWays → BothWays
after_moments [] ways = ways
after_moments (moment ∷ moments) ways = after_moments moments (after_moment moment ways)

-- ---- each heard frame was in flight

-- the frame with a number has these octets, and is in flight
pub record IsInFlight (octets : List ℕ) (number : ℕ) (way : OneWay) : Type 0 where
  pub ahead : way.front ≤ number
  pub frame : LinkFrame
  pub is_there : slice_get way.queued number ≡ Some frame
  pub same : frame.octets ≡ octets

-- each frame that is heard is matched with one in flight, of the same octets, and nothing else is; only what was queued
-- can have passed
abbrev pub IsMatched : Input → Option ℕ → OneWay → Type 0
IsMatched (FromHost event) matched way = matched ≡ None
IsMatched (OffAir octets) None way = ⊥
IsMatched (OffAir octets) (Some number) way = IsInFlight octets number way
IsMatched (OfClock busy) matched way = matched ≡ None

abbrev pub IsMatchedIn : Moment → BothWays → Type 0
IsMatchedIn (Steps step matched) ways = IsMatched step.input matched (sent_by (other step.station) ways)
IsMatchedIn (Passes sender below) ways = below ≤ length (sent_by sender ways).queued

abbrev pub AreMatched : List Moment → BothWays → Type 0
AreMatched [] ways = Unit {0}
AreMatched (moment ∷ moments) ways = IsMatchedIn moment ways × AreMatched moments (after_moment moment ways)

-- ---- each SABM, SABME and DISC finds a quiet channel

abbrev pub asks : LinkFrame → Bool
asks frame = is_ask frame.octets

-- a UA or DM that was sent on hearing SABM, SABME or DISC
abbrev pub answers : LinkFrame → Bool
answers frame = frame.on_ask && is_ua_or_dm frame.octets

-- A station queues SABM, SABME or DISC only if no earlier one of its own is in flight, and no answer to one is in
-- flight to it.
abbrev pub is_quiet_for : List ℕ → OneWay → OneWay → Bool
is_quiet_for octets own back =
    not (is_ask octets) || not (list_any asks (in_flight own) || list_any answers (in_flight back))

abbrev pub is_quiet_at : End → List ℕ → BothWays → Bool
is_quiet_at sender octets ways = is_quiet_for octets (sent_by sender ways) (sent_by (other sender) ways)

abbrev pub AreQuietAt : End → Bool → List (List ℕ) → BothWays → Type 0
AreQuietAt sender on_ask [] ways = Unit {0}
AreQuietAt sender on_ask (octets ∷ rest) ways =
    IsTrue (is_quiet_at sender octets ways) × AreQuietAt sender on_ask rest (queueing_at sender on_ask octets ways)

abbrev pub IsQuietIn : Moment → BothWays → Type 0
IsQuietIn (Steps step matched) ways =
    AreQuietAt step.station (hears_ask step.input) step.after.out.queued (hearing_at step.station matched ways)
IsQuietIn (Passes sender below) ways = Unit {0}

abbrev pub AreQuietThrough : List Moment → BothWays → Type 0
AreQuietThrough [] ways = Unit {0}
AreQuietThrough (moment ∷ moments) ways = IsQuietIn moment ways × AreQuietThrough moments (after_moment moment ways)
