use Rattle.station.proofs.Common.{◌≢◌, ℕ, ◌<◌, get_or}
use Rattle.station.specs.declared.connection.Connection.{Connection}
use Rattle.station.proofs.parts.Parts.place_of.Given as goal

-- no connection so far has the id
abbrev pub invariant-loop-place : goal.invariant-loop-place
invariant-loop-place l = (k : ℕ) (d : Connection) → k < l.place → (get_or l.self.connections.items k d).id ≢ l.id
