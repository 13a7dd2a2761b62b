-- A connection that joins by AGWPE speaks AGWPE in every state of a run.
use Rattle.station_laws.proofs.Common.{◌≡◌, ℕ, List, [], ◌∷◌, All, All-from_recursion, recursion_from_All, sym, subst, ⊤}
use Rattle.station_laws.proofs.Common.{Bytes, Joined, Left, PortKind, Agw, Connection, StationState, new_station, Config}
use Rattle.station_laws.proofs.Common.{Input, FromHost, OfClock, OffAir}
use Rattle.std.specs.List.{AllByRecursion as Each}
use Rattle.station.specs.Turn.{begin}
use Rattle.station_laws.specs.ProgramsTold.{SpeaksAgwpe}
use Rattle.live_laws.specs.LiveSteps.{OwnStep}
use Rattle.live_laws.specs.Taken.{IsAgwpe, IsChain, JoinsByAgwpe, JoinsInAgwpe}
use Rattle.live_laws.proofs.Connections.{Has, Joins, turn_so}

-- it speaks AGWPE in all steps
abbrev pub SpeaksInAll : ℕ → List OwnStep → Type 0
SpeaksInAll id steps = All (λ (step : OwnStep). SpeaksAgwpe id step.before) steps

module _ (id : ℕ) where
  abbrev IsSo : ℕ → PortKind → Type 0
  IsSo n kind = n ≡ id → kind ≡ Agw

  abbrev IsAny : ℕ → Type 0
  IsAny n = ⊤

  any : (n : ℕ) (kind : PortKind) → IsSo n kind → IsAny n
  any n kind h = tt

  joins_so : (input : Input) → JoinsByAgwpe id input → Joins IsSo IsAny any input
  joins_so (FromHost (Joined other kind)) h = h
  joins_so (FromHost (Bytes other octets)) h = tt
  joins_so (FromHost (Left other)) h = tt
  joins_so (OffAir octets) h = tt
  joins_so (OfClock busy) h = tt

  abbrev AllSo : StationState → Type 0
  AllSo s = Each (λ (c : Connection). c.id ≡ id → c.kind ≡ Agw) s.connections

  step_so : (step : OwnStep) → JoinsInAgwpe id step → AllSo step.before → AllSo step.after.now
  step_so step joins h =
      let has : Has IsSo IsAny any step.after =
      turn_so IsSo IsAny any step.input (begin step.before) step.after step.turn (joins_so step.input joins)
      (record { connections = h; closed = tt }) in
      has.connections

  speaks_on : (s : StationState) (steps : List OwnStep) → IsChain s steps → Each (JoinsInAgwpe id) steps → AllSo s
      → Each (λ (step : OwnStep). SpeaksAgwpe id step.before) steps
  speaks_on s [] chain joins h = tt
  speaks_on s (step ∷ steps) chain joins h =
      let here : AllSo step.before = subst AllSo (sym chain.0) h in (
        All-from_recursion (λ (c : Connection). c.id ≡ id → c.kind ≡ Agw) step.before.connections here,
        speaks_on step.after.now steps chain.1 joins.1 (step_so step joins.0 here),
      )

  pub speaks_in_all : (c : Config) (seed : ℕ) (steps : List OwnStep) → IsChain (new_station c seed) steps
      → IsAgwpe id steps → SpeaksInAll id steps
  speaks_in_all c seed steps chain joins =
      All-from_recursion (λ (step : OwnStep). SpeaksAgwpe id step.before) steps
      (speaks_on (new_station c seed) steps chain (recursion_from_All (JoinsInAgwpe id) steps joins) tt)
