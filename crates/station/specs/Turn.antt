-- One call of a station, act by act: what the station is after the acts so far, and what they gave.
use Rattle.std.specs.Prelude.{ℕ, nat_lt, ◌&&◌, Bool, if◌then◌else◌, List, [], ◌∷◌, ◌++◌, length, Option, Some, None, is_some}
use Rattle.channel_access.specs.Channel.{with_frame}
use Rattle.station.specs.declared.asker.Asker.{Asker}
use Rattle.station.specs.declared.host_out.Piece.{Piece}
use Rattle.station.specs.Connections.{connection_of}
use Rattle.station.specs.Owners.{own_waiting, most_own}
use Rattle.station.specs.State.{StationState, one_more}

-- what is sent to connections, which of them are closed, and the link frames that joined the transmit queue
pub record Out : Type 0 where
  pub pieces : List Piece
  pub closed : List ℕ
  pub queued : List (List ℕ)

pub record Turn : Type 0 where
  pub now : StationState
  pub out : Out

abbrev pub Act : Type 0
Act = Turn → Turn

-- before any act
abbrev pub begin : StationState → Turn
begin s = record { now = s; out = record { pieces = []; closed = []; queued = [] } }

-- no act
abbrev pub nothing : Act
nothing turn = turn

-- acts one after another
abbrev pub in_order : List Act → Act
in_order [] turn = turn
in_order (act ∷ acts) turn = in_order acts (act turn)

-- an act that gives nothing
abbrev pub changing : (StationState → StationState) → Act
changing change turn = record turn { now = change turn.now }

-- octets for a connection
abbrev pub with_piece : ℕ → List ℕ → Out → Out
with_piece id octets out = record out { pieces = out.pieces ++ (record { id = id; octets = octets }) ∷ [] }

abbrev pub sending : ℕ → List ℕ → Act
sending id octets turn = record turn { out = with_piece id octets turn.out }

-- a connection is closed
abbrev pub closing : ℕ → Act
closing id turn = record turn { out = record turn.out { closed = turn.out.closed ++ id ∷ [] } }

-- a frame is told of if it is a link's
abbrev pub told_of : Option ℕ → List ℕ → List (List ℕ)
told_of None octets = []
told_of (Some key) octets = octets ∷ []

abbrev pub entering_for : Option ℕ → Option Asker → Option ℕ → List ℕ → Act
entering_for owner asker link octets turn = record {
  now = record turn.now {
    channel = with_frame link octets turn.now.channel;
    askers = turn.now.askers ++ asker ∷ [];
    owners = turn.now.owners ++ owner ∷ [];
  };
  out = record turn.out { queued = turn.out.queued ++ told_of link octets };
}

abbrev pub entering : Option ℕ → List ℕ → Act
entering link octets = entering_for None None link octets

abbrev pub dropping : Act
dropping turn = record turn { now = record turn.now { dropped = one_more turn.now.dropped } }

-- a frame that no connection gave is dropped if so many wait
abbrev pub capacity : ℕ
capacity = 256

-- The queue has so many places. They are never all taken: no more than 256 frames are of connections.
abbrev pub places : ℕ
places = 512

-- A connection that is there has room for four frames of its own, whatever others send.
abbrev pub may_enter : Option ℕ → StationState → Bool
may_enter None s = nat_lt (length s.channel.waiting) capacity
may_enter (Some id) s =
    is_some (connection_of id s.connections)
    && (nat_lt (own_waiting id s.owners) most_own && nat_lt (length s.channel.waiting) places)

-- A frame joins the transmit queue, for the link of a key or for none, or is dropped if there is no room for it. Beside
-- it stand the connection that gave it as it stands, or none, and a host that is told when it has been sent, or none.
abbrev pub queueing_for : Option ℕ → Option Asker → Option ℕ → List ℕ → Act
queueing_for owner asker link octets turn =
    if may_enter owner turn.now then entering_for owner asker link octets turn else dropping turn

-- a frame of a link, or one that is repeated
abbrev pub queueing : Option ℕ → List ℕ → Act
queueing link octets = queueing_for None None link octets

-- a frame that a connection gives as it stands
abbrev pub queueing_own : ℕ → Option Asker → List ℕ → Act
queueing_own id asker octets = queueing_for (Some id) asker None octets
