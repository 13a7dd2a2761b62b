-- A call passes from one connection to another (AGWPE, kind X). A host program that went away without closing its
-- connection, as a computer that lost its power, would have its calls for ever. So the connection that has a call loses
-- it to another one that asks for it when nothing has come from it for 6000 ticks of 10 ms: it is closed, and it has
-- left, with all its calls and links.
use Rattle.std.specs.Prelude.{ℕ, ◌-◌, ◌==◌, nat_le, Bool, false, not, ◌&&◌, if◌then◌else◌, Option, Some, None}
use Rattle.ax25_address.specs.Callsign.{Callsign}
use Rattle.station.specs.Connections.{Connection, connection_of}
use Rattle.station.specs.Leaving.{shutting}
use Rattle.station.specs.Registrations.{registrar}
use Rattle.station.specs.State.{StationState}
use Rattle.station.specs.Turn.{Act}

-- how many ticks without octets make a connection a silent one
abbrev pub silence : ℕ
silence = 6000

-- no octets have come from a connection for so many ticks, when so many have been made
abbrev pub is_silent : ℕ → Option Connection → Bool
is_silent ticks None = false
is_silent ticks (Some connection) = nat_le silence (ticks - connection.came)

-- the connection that has the call, if it is another one and silent
abbrev pub loser_among : ℕ → Option ℕ → StationState → Option ℕ
loser_among id None s = None
loser_among id (Some other) s =
    if not (other == id) && is_silent s.ticks (connection_of other s.connections) then Some other else None

-- the connection that loses a call when this one asks for it
abbrev pub loser : ℕ → Callsign → StationState → Option ℕ
loser id call s = loser_among id (registrar call s.registrations) s

abbrev pub shutting_loser : Option ℕ → Act
shutting_loser None turn = turn
shutting_loser (Some other) turn = shutting other turn

-- a call that a connection asks for is taken from the one that loses it
abbrev pub passing : ℕ → Option Callsign → Act
passing id None turn = turn
passing id (Some call) turn = shutting_loser (loser id call turn.now) turn
