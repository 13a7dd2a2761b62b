use Rattle.station.proofs.Common.{ap, Result}
use Rattle.std.proofs.Common.{ℕ, Ok, Err}
use Rattle.selective_reject.specs.declared.window.BadWindow.{BadWindow as Refused}
use Rattle.link_machine.specs.declared.fault.NewFault.{NewFault}
use Rattle.link_machine.specs.declared.fault.NewFault.TheVariants.{BadWindow, Memory}
use Rattle.station.proofs.station.Station.new.Goals as goal

-- the window that is refused
abbrev window_in : {A : Type 0} → Result A NewFault → ℕ
window_in (Ok x) = 0
window_in (Err (BadWindow window)) = window
window_in (Err Memory) = 0

abbrev refused_in : {A : Type 0} → Result A Refused → ℕ
refused_in (Ok x) = 0
refused_in (Err bad) = bad.window

pub returns-in-Err-clause-bad_window : goal.returns-in-Err-clause-bad_window
returns-in-Err-clause-bad_window c = λ w.
    let is = c.in-Err.ensures.refused w in (
      λ e. is.0 (ap (λ k. Err (record { window = k })) (ap window_in e)),
      λ r. ap (λ k. Err (BadWindow k)) (ap refused_in (is.1 r)),
    )
