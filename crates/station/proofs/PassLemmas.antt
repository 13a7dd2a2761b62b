-- How long a connection has been silent, as the code sees it.
use Rattle.station.proofs.Common.{◌≡◌, ℕ, ◌-◌, false, List, All, AllZip, AllPairs, ◌≢◌, ap, ◌∙◌, sym, get_or, Kiss}
use Rattle.station.proofs.Common.{Connection, new_connection, HasOtherId, StandsForConnection}
use Rattle.std.specs.Prelude.{nat_le}
use Rattle.station.specs.HeldConnections.{HasIdAt}
use Rattle.station.specs.Passing.{is_silent}
use Rattle.station.specs.Connections.{connection_of}
use Rattle.station.specs.declared.connection.Connection.{Connection as HeldConnection}
use Rattle.station.proofs.TakeLemmas.{connection_at, connection_none, place_is, stands_here}

-- no connection of the id is there
pub none_silent :
    (id ticks : ℕ) (held : List HeldConnection) (connections : List Connection)
    → AllZip StandsForConnection held connections → All (λ connection. connection.id ≢ id) held
    → is_silent ticks (connection_of id connections) ≡ false
none_silent id ticks held connections each none =
    ap (is_silent ticks) (connection_none id held connections (new_connection 0 Kiss) each none)

-- the connection of a place has it
pub one_silent :
    (id k ticks : ℕ) (held : List HeldConnection) (connections : List Connection) (here : HeldConnection)
    → AllZip StandsForConnection held connections → AllPairs HasOtherId connections → HasIdAt id k held
    → here ≡ get_or held k here
    → nat_le 6000 (ticks - here.came) ≡ is_silent ticks (connection_of id connections)
one_silent id k ticks held connections here each ids at is =
    let d : Connection = new_connection 0 Kiss in
    let stands = stands_here held connections k here d each at.within is in
    ap (λ came. nat_le 6000 (ticks - came)) stands.came
    ∙ sym (ap (is_silent ticks) (connection_at id k connections d (place_is id k held connections each ids at)))
