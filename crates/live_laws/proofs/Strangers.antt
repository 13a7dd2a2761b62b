-- A connection that has not joined is unknown to the station: no step closes it or tells that it left.
use Rattle.tnc_ports.proofs.Common.{◌≡◌, ◌≢◌, ℕ, ◌==◌, true, false, List, [], ◌∷◌, sym, ◌∙◌, true≢false}
use Rattle.tnc_ports.proofs.Common.{eq-eqb, or_parts, Turn, Joined, Bytes, Left, is_among}
use Rattle.std.specs.List.{AllByRecursion as Each}
use Rattle.std.proofs.lemmas.List.Elements.{All-from_recursion}
use Rattle.station.specs.Connections.{Connection}
use Rattle.station.specs.State.{StationState}
use Rattle.station.specs.Turn.{begin}
use Rattle.station_laws.specs.JointRun.{Input, IsTurn}
use Rattle.station_laws.specs.JointRun.Input.{FromHost, OffAir, OfClock}
use Rattle.call_laws.specs.Client.{Stays}
use Rattle.live_laws.proofs.Connections.{Has, Joins, turn_so}

-- the station has no connection of the id
abbrev pub IsUnknown : ℕ → StationState → Type 0
IsUnknown id s = Each (λ (c : Connection). c.id ≢ id) s.connections

-- that it joins or leaves is not what the step takes
abbrev pub TouchesNot : ℕ → Input → Type 0
TouchesNot id (FromHost (Joined other kind)) = other ≢ id
TouchesNot id (FromHost (Bytes other octets)) = Unit {0}
TouchesNot id (FromHost (Left other)) = other ≢ id
TouchesNot id (OffAir octets) = Unit {0}
TouchesNot id (OfClock busy) = Unit {0}

-- who is not among those that are closed
pub each_other : (id : ℕ) (closed : List ℕ) → is_among id closed ≡ false → Each (λ n. n ≢ id) closed
each_other id [] none = tt
each_other id (n ∷ closed) none =
    let parts = or_parts (n == id) (is_among id closed) none in
    (λ same. true≢false (sym (eq-eqb n id same) ∙ parts.0), each_other id closed parts.1)

pub unknown_stays : (id : ℕ) (input : Input) (s : StationState) (after : Turn) → IsTurn input (begin s) after
    → TouchesNot id input → IsUnknown id s → Stays id input after.out.closed × IsUnknown id after.now
unknown_stays id input s after turn touches unknown = (stays input touches, has.connections)
  where
    joins : (i : Input) → TouchesNot id i → Joins (λ n kind. n ≢ id) (λ n. n ≢ id) (λ n kind h. h) i
    joins (FromHost (Joined other kind)) h = h
    joins (FromHost (Bytes other octets)) h = tt
    joins (FromHost (Left other)) h = tt
    joins (OffAir octets) h = tt
    joins (OfClock busy) h = tt

    has : Has (λ n kind. n ≢ id) (λ n. n ≢ id) (λ n kind h. h) after
    has =
        turn_so (λ n kind. n ≢ id) (λ n. n ≢ id) (λ n kind h. h) input (begin s) after turn (joins input touches)
        (record { connections = unknown; closed = tt })

    stays : (i : Input) → TouchesNot id i → Stays id i after.out.closed
    stays (FromHost (Joined other kind)) h = tt
    stays (FromHost (Bytes other octets)) h = All-from_recursion (λ n. n ≢ id) after.out.closed has.closed
    stays (FromHost (Left other)) h = h
    stays (OffAir octets) h = tt
    stays (OfClock busy) h = tt
