use Rattle.slicer_bank.proofs.Common.{ℕ, ℤ, ◌<◌, List, All, bits, HoldsCarrier, AsksFor, LanesStandFor}
use Rattle.slicer_bank.proofs.lane.is_some_busy.Given as goal

abbrev pub invariant-loop-lane : goal.invariant-loop-lane
invariant-loop-lane l = (flags : ℕ) (x : List ℤ) → LanesStandFor l.lanes x → All (AsksFor flags) l.lanes → (k : ℕ)
    → k < l.lane-index → HoldsCarrier flags (bits k x) → ⊥
