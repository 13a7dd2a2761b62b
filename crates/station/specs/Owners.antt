-- Whose the frames are that wait to be sent: each frame that a connection gave as it stands (KISS, and AGWPE by kinds K, M
-- and V) is of that connection until it has been sent, also after the connection has left; the frames of links and those
-- that the station repeats are of none.
use Rattle.std.specs.Prelude.{ℕ, ◌+◌, ◌*◌, ◌==◌, nat_le, Bool, false, not, List, count_by, drop, Option, Some, None, is_some}
use Rattle.channel_access.specs.declared.air_tick.Sent.{Sent}
use Rattle.station.specs.Connections.{Connection, connection_of, most_connections}

-- the frame is of the connection
abbrev pub is_of : ℕ → Option ℕ → Bool
is_of id None = false
is_of id (Some owner) = owner == id

-- how many frames of a connection wait
abbrev pub own_waiting : ℕ → List (Option ℕ) → ℕ
own_waiting id owners = count_by (is_of id) owners

-- the connection of the frame has left
abbrev pub has_left : List Connection → Option ℕ → Bool
has_left connections None = false
has_left connections (Some owner) = not (is_some (connection_of owner connections))

-- how many frames of connections that have left wait
abbrev pub left_waiting : List Connection → List (Option ℕ) → ℕ
left_waiting connections owners = count_by (has_left connections) owners

-- of the frames that wait after a tick, in which the front one was sent or none
abbrev pub owners_after : Option Sent → List (Option ℕ) → List (Option ℕ)
owners_after None owners = owners
owners_after (Some sent) owners = drop 1 owners

-- a connection gives more octets only while fewer frames of it than this wait
abbrev pub most_own : ℕ
most_own = 4

-- There is room for one connection more than so many: each of 64 has room for four frames, and frames of connections that
-- have left keep theirs until they are sent.
abbrev pub has_room : ℕ → ℕ → Bool
has_room there left = nat_le (most_own * (there + 1) + left) (most_own * most_connections)
