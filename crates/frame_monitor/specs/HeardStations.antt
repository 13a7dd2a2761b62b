-- The stations that were heard last, as AGWPE lists them (kind H; the AGWPE TCP/IP API tutorial, SV2AGW): at most 20, the
-- one that was heard last at the front, each with the times at which it was heard first and last.
use Rattle.std.specs.Prelude.{ℕ, ◌/◌, ◌%◌, nat_lt, Bool, not, if◌then◌else◌, List, [], ◌∷◌, ◌++◌, codes, decimal, filter}
use Rattle.std.specs.Prelude.{find, take, Option, Some, None}
use Rattle.ax25_address.specs.Callsign.{Callsign}
use Rattle.ax25_address.specs.CallText.{text_of_call}
use Rattle.ax25_address.specs.SameCall.{is_same_call}
use Rattle.frame_monitor.specs.Clock.{two_digits}
use Rattle.frame_monitor.specs.declared.heard_station.HeardStation.{HeardStation}

-- how many stations are kept
abbrev pub most_heard : ℕ
most_heard = 20

abbrev pub is_of_call : Callsign → HeardStation → Bool
is_of_call call station = is_same_call station.call call

-- the station of a call, if it is kept
abbrev pub heard_of : Callsign → List HeardStation → Option HeardStation
heard_of call heard = find (is_of_call call) heard

abbrev pub others_heard : Callsign → List HeardStation → List HeardStation
others_heard call heard = filter (λ station. not (is_of_call call station)) heard

-- when a station that is heard now was heard first, since it is kept
abbrev pub first_heard : ℕ → Option HeardStation → ℕ
first_heard ticks None = ticks
first_heard ticks (Some station) = station.first

-- A station is heard: it stands at the front from then on, and a 21st is forgotten.
abbrev pub hearing_station : Callsign → ℕ → List HeardStation → List HeardStation
hearing_station call ticks heard =
    take most_heard
    ((record { call = call; first = first_heard ticks (heard_of call heard); last = ticks }) ∷ others_heard call heard)

-- a frame of a station, and how many ticks had been made when it was heard
pub record Hearing : Type 0 where
  pub call : Callsign
  pub ticks : ℕ

-- the stations that are kept after frames have been heard, the last one first in the list
abbrev pub heard_stations : List Hearing → List HeardStation
heard_stations [] = []
heard_stations (last ∷ earlier) = hearing_station last.call last.ticks (heard_stations earlier)

-- ---- in words

-- two digits at least
abbrev pub zero_before : ℕ → List ℕ
zero_before hours = if nat_lt hours 10 then codes "0" else []

abbrev pub hours_text : ℕ → List ℕ
hours_text hours = zero_before hours ++ decimal hours

-- the time since the start in hours, minutes and seconds; the hours go on after a day
abbrev pub time_text : ℕ → List ℕ
time_text ticks =
    hours_text (ticks / 360000) ++ (codes ":" ++ (two_digits (ticks / 6000 % 60) ++ (codes ":"
    ++ two_digits (ticks / 100 % 60))))

-- its call, when it was heard first and when last, and NUL
abbrev pub heard_text : HeardStation → List ℕ
heard_text station =
    text_of_call station.call ++ (codes " " ++ (time_text station.first ++ (codes "  " ++ (time_text station.last
    ++ 0 ∷ []))))
