use Rattle.ring_receiver.proofs.Common.{◌↔◌, subst, IsBusyOnRing, Listens, HeldReceiver}
use Rattle.std.proofs.Common.{IsTrue}
use Rattle.slicer_bank.specs.RingLanes.{readers_in as readers_of_bank}
use Rattle.ring_receiver.specs.HeldReceiver.{answers_in}
use Rattle.ring_receiver.proofs.AnswerLemmas.{busy_of}
use Rattle.ring_receiver.proofs.receiver.RingReceiver.busy.Goals as goal

pub returns : goal.returns
returns c = λ len.
    let s = c.self.inside in
    let P : HeldReceiver → Type 0
    = λ v. Listens len v.bank → IsTrue c.busy.result ↔ IsBusyOnRing v.detection (answers_in len v) in
    subst P c.self.view_is (λ h.
    let told = c.busy.ensures len h in
    let both = busy_of len s.bank.detection (readers_of_bank s.bank) s.added c.self.invariant.0 in
    (λ t. both.0 (told.0 t), λ b. told.1 (both.1 b)))
