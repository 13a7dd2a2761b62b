use Rattle.std.proofs.Common.{List, subst}
use Rattle.std.specs.Prelude.{◌↔◌, IsTrue, nat_lt}
use Rattle.tone_carrier.specs.declared.heard_window.HeardWindow.{HeardWindow}
use Rattle.tone_carrier.specs.Tones.{ShowsCarrier}
use Rattle.tone_carrier.specs.Held.{HeldLane, LaneStandsFor}
use Rattle.tone_carrier.proofs.HoldLemmas.{shows_by_hold}
use Rattle.tone_carrier.proofs.carrier_lane.CarrierLane.is_busy.Goals as goal

pub returns : goal.returns
returns c =
    let s = c.self.inside in
    let P : HeldLane → Type 0 = λ held. (windows : List HeardWindow) → LaneStandsFor held windows
    → IsTrue (nat_lt 0 s.hold) ↔ ShowsCarrier windows in
    subst P c.self.view_is (λ windows h. shows_by_hold windows s.hold h.hold)
