use Rattle.slicer_bank.proofs.Common.{ℤ, List, sym, subst, ◌↔◌, IsTrue, All, HearsCarrier, HeldBank, AsksFor}
use Rattle.slicer_bank.proofs.Common.{LanesStandFor}
use Rattle.slicer_bank.specs.Held.{StandsFor}
use Rattle.slicer_bank.proofs.bank.Bank.busy.Goals as goal

pub returns : goal.returns
returns c =
    let P : HeldBank → Type 0 = λ now. (x : List ℤ) → StandsFor now x
    → IsTrue c.is_some_busy.result ↔ HearsCarrier now.flags x in
    subst P c.self.view_is (λ x h.
    c.is_some_busy.ensures c.self.inside.flags x
    (subst (λ lanes. LanesStandFor lanes x) (sym c.deref.ensures.value) h.lanes)
    (subst (All (AsksFor c.self.inside.flags)) (sym c.deref.ensures.value) h.asks))
