-- What is in flight between two stations of the link of two calls alone, to someone who sees which sent frame each
-- heard one is: that each heard frame of the link was in flight, and that each SABM, SABME and DISC of it finds a quiet
-- channel. What other links and other stations send does not matter.
use Rattle.std.specs.Prelude.{ℕ, ◌≤◌, ◌||◌, ◌&&◌, not, Bool, List, [], ◌∷◌, length, Option, Some, None, IsTrue}
use Rattle.std.specs.List.{list_any}
use Rattle.ax25_address.specs.Callsign.{Callsign}
use Rattle.link_world.specs.declared.end.End.{End}
use Rattle.link_world.specs.World.{other}
use Rattle.station_laws.specs.HeardInOrder.{HearsFrameOf}
use Rattle.station_laws.specs.InFlight.{Moment, LinkFrame, OneWay, BothWays, IsMatched, after_moment, answers, asks}
use Rattle.station_laws.specs.InFlight.{hearing_at, hears_ask, in_flight, is_ask, queueing_at, sent_by}
use Rattle.station_laws.specs.InFlight.Moment.{Steps, Passes}
use Rattle.station_laws.specs.JointRun.{Step}
use Rattle.station_laws.specs.LinkFrames.{is_from_to}
use Rattle.station_laws.specs.LinkOfCalls.{Calls, call_at_end}

-- ---- each heard frame was in flight

-- A frame of the link, at the end that has the first call, is matched with one in flight, of the same octets. Another
-- is matched with one or with none.
abbrev pub IsMatchedFor : (local remote : Callsign) → Step → Option ℕ → OneWay → Type 0
IsMatchedFor local remote step None way =
    (octets : List ℕ) → HearsFrameOf local remote step.station step octets → ⊥
IsMatchedFor local remote step (Some number) way = IsMatched step.input (Some number) way

-- only what was queued can have passed
abbrev pub IsMatchedInFor : Calls → Moment → BothWays → Type 0
IsMatchedInFor calls (Steps step matched) ways =
    IsMatchedFor (call_at_end calls step.station) (call_at_end calls (other step.station)) step matched
    (sent_by (other step.station) ways)
IsMatchedInFor calls (Passes sender below) ways = below ≤ length (sent_by sender ways).queued

abbrev pub AreMatchedFor : Calls → List Moment → BothWays → Type 0
AreMatchedFor calls [] ways = Unit {0}
AreMatchedFor calls (moment ∷ moments) ways =
    IsMatchedInFor calls moment ways × AreMatchedFor calls moments (after_moment moment ways)

-- ---- each SABM, SABME and DISC finds a quiet channel

-- SABM, SABME or DISC from one call to another
abbrev pub asks_from_to : Callsign → Callsign → LinkFrame → Bool
asks_from_to source dest frame = is_from_to source dest frame.octets && asks frame

-- UA or DM from one call to another, sent on hearing SABM, SABME or DISC
abbrev pub answers_from_to : Callsign → Callsign → LinkFrame → Bool
answers_from_to source dest frame = is_from_to source dest frame.octets && answers frame

-- The end that has the first call queues SABM, SABME or DISC of the link only if no earlier one of the link is in
-- flight from it, and no answer of the link to one is in flight to it.
abbrev pub is_quiet_for_link : (local remote : Callsign) → List ℕ → OneWay → OneWay → Bool
is_quiet_for_link local remote octets own back =
    not (is_from_to local remote octets && is_ask octets)
    || not (list_any (asks_from_to local remote) (in_flight own)
    || list_any (answers_from_to remote local) (in_flight back))

abbrev pub is_quiet_at_for : Calls → End → List ℕ → BothWays → Bool
is_quiet_at_for calls sender octets ways =
    is_quiet_for_link (call_at_end calls sender) (call_at_end calls (other sender)) octets (sent_by sender ways)
    (sent_by (other sender) ways)

abbrev pub AreQuietAtFor : Calls → End → Bool → List (List ℕ) → BothWays → Type 0
AreQuietAtFor calls sender on_ask [] ways = Unit {0}
AreQuietAtFor calls sender on_ask (octets ∷ rest) ways =
    IsTrue (is_quiet_at_for calls sender octets ways)
    × AreQuietAtFor calls sender on_ask rest (queueing_at sender on_ask octets ways)

abbrev pub IsQuietInFor : Calls → Moment → BothWays → Type 0
IsQuietInFor calls (Steps step matched) ways =
    AreQuietAtFor calls step.station (hears_ask step.input) step.after.out.queued
    (hearing_at step.station matched ways)
IsQuietInFor calls (Passes sender below) ways = Unit {0}

abbrev pub AreQuietFor : Calls → List Moment → BothWays → Type 0
AreQuietFor calls [] ways = Unit {0}
AreQuietFor calls (moment ∷ moments) ways =
    IsQuietInFor calls moment ways × AreQuietFor calls moments (after_moment moment ways)
