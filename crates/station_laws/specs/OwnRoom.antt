-- The room that connections have in the transmit queue for frames that they give as they stand, whatever others send.
use Rattle.std.specs.Prelude.{◌≡◌, ℕ, ◌≤◌, nat_lt, ◌&&◌, is_some, List, length, Some}
use Rattle.link_world.specs.declared.end.End.{End}
use Rattle.station.specs.declared.config.Config.{Config}
use Rattle.station.specs.Connections.{connection_of}
use Rattle.station.specs.Owners.{own_waiting, most_own}
use Rattle.station.specs.State.{StationState}
use Rattle.station.specs.Turn.{may_enter, places}
use Rattle.station_laws.specs.JointRun.{IsJointRun, Step, all_stepped, new_stations, state_of}

-- No more than four frames of a connection wait, and the queue has places for all that wait. A frame of a connection that
-- is there finds room exactly if fewer than four of its own wait.
pub record HasOwnRoom (id : ℕ) (s : StationState) : Type 0 where
  pub own : own_waiting id s.owners ≤ most_own
  pub all : length s.channel.waiting ≤ places
  pub room : may_enter (Some id) s
      ≡ (is_some (connection_of id s.connections) && nat_lt (own_waiting id s.owners) most_own)

-- of each connection, at each station after each joint run
abbrev pub OwnRoom : Type 0
OwnRoom =
    (a b : Config) (seed_a seed_b : ℕ) (steps : List Step) → let start = new_stations a seed_a b seed_b in
    IsJointRun start steps → (end : End) (id : ℕ) → HasOwnRoom id (state_of end (all_stepped steps start))
