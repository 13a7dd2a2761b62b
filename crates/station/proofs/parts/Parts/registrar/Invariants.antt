use Rattle.station.proofs.Common.{◌≡◌, ℕ, ◌<◌, false, get_or, is_same_call, Registration}
use Rattle.station.proofs.parts.Parts.registrar.Given as goal

-- no registration so far is of the call
abbrev pub invariant-loop-registration : goal.invariant-loop-registration
invariant-loop-registration l = (k : ℕ) (d : Registration) → k < l.registration-index
    → is_same_call (get_or l.self.registrations.items k d).call l.call ≡ false
