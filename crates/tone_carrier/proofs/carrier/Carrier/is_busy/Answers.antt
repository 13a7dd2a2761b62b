use Rattle.std.proofs.Common.{ℕ, ℤ, List, subst, refl}
use Rattle.std.specs.Prelude.{◌↔◌, IsTrue}
use Rattle.tone_carrier.specs.Tones.{HasTones}
use Rattle.tone_carrier.specs.Held.{HeldCarrier, StandsFor}
use Rattle.tone_carrier.proofs.CarrierLemmas.{busy_is}
use Rattle.tone_carrier.proofs.carrier.Carrier.is_busy.Goals as goal

pub returns : goal.returns
returns c =
    let s = c.self.inside in
    let P : HeldCarrier → Type 0 = λ held. (begin : ℕ) (x : List ℤ) → StandsFor held begin x
    → IsTrue c.is_some_busy.result ↔ HasTones begin x in
    subst P c.self.view_is (λ begin x h. busy_is c.is_some_busy.result s.lanes _ begin x refl h c.is_some_busy.ensures)
