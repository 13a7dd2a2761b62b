use Rattle.fx25_ring.proofs.Common.{◌↔◌, refl, inl, subst}
use Rattle.std.proofs.Common.{IsTrue}
use Rattle.slicer_bank.specs.Busy.{HearsCarrier}
use Rattle.fx25_receiver.specs.Coming.{HearsBlock}
use Rattle.fx25_ring.proofs.LanesLemmas.{either}
use Rattle.fx25_ring.proofs.lanes.Lanes.busy.Goals as goal

pub returns-then-busy : goal.returns-then-busy
returns-then-busy c = λ s h.
    let lanes = c.args.self.now in
    let told = c.busy.ensures s.samples h.flags in (
      λ _. inl (subst (λ n. HearsCarrier n s.samples) lanes.asked (told.0 c.if-busy.true)),
      λ _. refl,
    )

pub returns : goal.returns
returns c = λ s h.
    let lanes = c.args.self.now in
    let told = subst (λ n. IsTrue c.busy.result ↔ HearsCarrier n s.samples) lanes.asked
    (c.busy.ensures s.samples h.flags) in
    either (HearsCarrier lanes.flags s.samples) (HearsBlock s.samples) c.is_block_coming.result
    (subst (λ b. IsTrue b ↔ HearsCarrier lanes.flags s.samples) c.if-busy.false told)
    (c.is_block_coming.ensures s.samples h.own h.blocks)
