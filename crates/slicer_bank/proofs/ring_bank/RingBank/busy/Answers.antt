use Rattle.slicer_bank.proofs.Common.{List, subst, RingLane, IsBusyOnRing, HeldRingBank, LanesListen, answers_by}
use Rattle.std.proofs.Common.{◌↔◌, IsTrue}
use Rattle.slicer_bank.specs.RingLanes.{Listens, answers_in}
use Rattle.slicer_bank.proofs.ring_bank.RingBank.busy.Goals as goal

pub returns : goal.returns
returns c = λ len.
    let asked = c.self.inside.detection in
    let P : HeldRingBank → Type 0 = λ bank. Listens len bank
    → IsTrue c.is_some_busy.result ↔ IsBusyOnRing bank.detection (answers_in len bank) in
    subst P c.self.view_is (λ h.
    subst (λ (lanes : List RingLane). LanesListen len asked lanes
    → IsTrue c.is_some_busy.result ↔ IsBusyOnRing asked (answers_by len lanes)) c.deref.ensures.value
    (c.is_some_busy.ensures len) h.lanes)
