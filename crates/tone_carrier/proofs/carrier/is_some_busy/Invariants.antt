use Rattle.std.proofs.Common.{ℕ, ◌<◌, List}
use Rattle.tone_carrier.specs.declared.heard_window.HeardWindow.{HeardWindow}
use Rattle.tone_carrier.specs.Tones.{ShowsCarrier}
use Rattle.tone_carrier.proofs.CarrierLemmas.{StandFor}
use Rattle.tone_carrier.proofs.carrier.is_some_busy.Given as goal

abbrev pub invariant-loop-lane : goal.invariant-loop-lane
invariant-loop-lane l = (windows : ℕ → List HeardWindow) → StandFor l.lanes windows → (k : ℕ) → k < l.lane-index
    → ShowsCarrier (windows k) → ⊥
