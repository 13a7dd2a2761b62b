-- What was appended for a connection so far, and what it was sent of that.
use Rattle.std.specs.Prelude.{◌≡◌, ℕ, ◌==◌, false, if◌then◌else◌, List, [], ◌++◌, Option, Some, None}
use Rattle.std.specs.List.{flat_map}
use Rattle.station.specs.declared.host_out.Piece.{Piece}
use Rattle.host_ports.specs.declared.client.Client.{Client}
use Rattle.host_ports.specs.Hosts.{Hosts, client_of, is_among}
use Rattle.host_ports.specs.Waiting.{octets_of}

-- the octets for one connection
abbrev pub octets_for : ℕ → List Piece → List ℕ
octets_for id pieces = flat_map (λ piece. if piece.id == id then piece.octets else []) pieces

-- what is left of what was appended: what waits, or whatever a connection that is not there was not sent
abbrev pub IsLeft : List ℕ → Option Client → Type 0
IsLeft rest None = Unit {0}
IsLeft rest (Some client) = rest ≡ octets_of client.waiting

-- a first part of what was appended was sent
pub record IsSentOf (appended sent : List ℕ) (client : Option Client) : Type 0 where
  pub rest : List ℕ
  pub parts : appended ≡ sent ++ rest
  pub left : IsLeft rest client

-- each connection was sent a first part of what was appended for it, and for one that never came nothing was
pub record AreSentInOrder (came : List ℕ) (clients : List Client) (appended sent : List Piece) : Type 0 where
  pub first : (id : ℕ) → IsSentOf (octets_for id appended) (octets_for id sent) (client_of id clients)
  pub strangers : (id : ℕ) → is_among id came ≡ false → (octets_for id appended ≡ []) × (client_of id clients ≡ None)

abbrev pub IsOrderly : Hosts → Type 0
IsOrderly hosts = AreSentInOrder hosts.came hosts.clients hosts.appended hosts.sent
