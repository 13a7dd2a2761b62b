use Rattle.hf_modem.proofs.Common.{ℤ, List, sym, subst, ◌↔◌, All, HeldBank, BankStandsFor}
use Rattle.std.proofs.Common.{IsTrue}
use Rattle.hf_modem.specs.Busy.{HearsCarrier}
use Rattle.hf_modem.specs.Held.{AsksFor, LanesStandFor}
use Rattle.hf_modem.proofs.bank.HfBank.busy.Goals as goal

pub returns : goal.returns
returns c =
    let P : HeldBank → Type 0 = λ now. (x : List ℤ) → BankStandsFor now x
    → IsTrue c.is_some_busy.result ↔ HearsCarrier now.flags x in
    subst P c.self.view_is (λ x h.
    c.is_some_busy.ensures c.self.inside.flags x
    (subst (λ lanes. LanesStandFor lanes x) (sym c.deref.ensures.value) h.lanes)
    (subst (All (AsksFor c.self.inside.flags)) (sym c.deref.ensures.value) c.self.invariant.1))
