-- The calls of an AGWPE message: from which to which, and by way of which repeaters.
use Rattle.std.specs.Prelude.{ℕ, zero, suc, ◌*◌, ◌&&◌, nat_le, false, if◌then◌else◌, List, [], ◌∷◌, length, map, take}
use Rattle.std.specs.Prelude.{drop, Option, Some, None}
use Rattle.ax25_address.specs.Callsign.{Callsign}
use Rattle.ax25_address.specs.declared.path.Hop.{Hop}
use Rattle.ax25_address.specs.declared.path.Path.{Path}
use Rattle.ax25_address.specs.declared.path.Role.TheVariants.{Command}
use Rattle.station.specs.CallFields.{call_in}

pub record Route : Type 0 where
  pub local : Callsign
  pub remote : Callsign
  pub repeaters : List Callsign

abbrev pub before_calls : Option Callsign → Option (List Callsign) → Option (List Callsign)
before_calls None calls = None
before_calls (Some call) None = None
before_calls (Some call) (Some calls) = Some (call ∷ calls)

-- so many calls of ten octets each, if all of them are calls
abbrev pub calls_in : ℕ → List ℕ → Option (List Callsign)
calls_in zero octets = Some []
calls_in (suc count) octets = before_calls (call_in (take 10 octets)) (calls_in count (drop 10 octets))

-- the repeaters that a body begins with: a count of at most 8, and so many calls
abbrev pub repeaters_in : List ℕ → Option (List Callsign)
repeaters_in [] = None
repeaters_in (count ∷ octets) =
    if nat_le count 8 && nat_le (10 * count) (length octets) then calls_in count octets else None

-- what stands after them
abbrev pub after_repeaters : List ℕ → List ℕ
after_repeaters [] = []
after_repeaters (count ∷ octets) = drop (10 * count) octets

abbrev pub route_of : Option Callsign → Option Callsign → Option (List Callsign) → Option Route
route_of None remote repeaters = None
route_of (Some local) None repeaters = None
route_of (Some local) (Some remote) None = None
route_of (Some local) (Some remote) (Some repeaters) =
    Some (record { local = local; remote = remote; repeaters = repeaters })

-- the route of the fields CallFrom and CallTo
abbrev pub route_in : List ℕ → List ℕ → Option (List Callsign) → Option Route
route_in from to repeaters = route_of (call_in from) (call_in to) repeaters

abbrev pub waiting_hop : Callsign → Hop
waiting_hop call = record { call = call; done = false }

-- a frame's path along a route
abbrev pub path_along : Route → Path
path_along route = record {
  dest = route.remote;
  source = route.local;
  repeaters = record { items = map waiting_hop route.repeaters };
  role = Command;
}
