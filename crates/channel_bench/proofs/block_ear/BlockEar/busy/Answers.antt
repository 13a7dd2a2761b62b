-- By a flag, or by a block that comes in.
use Rattle.channel_bench.proofs.Common.{◌↔◌, IsTrue, refl, inl, subst}
use Rattle.fx25_receiver.specs.Coming.{HearsBlock}
use Rattle.slicer_bank.specs.Busy.{HearsCarrier}
use Rattle.channel_bench.proofs.BlockEarLemmas.{either}
use Rattle.channel_bench.proofs.block_ear.BlockEar.busy.Goals as goal

pub returns-then-busy : goal.returns-then-busy
returns-then-busy c = λ x h.
    let told = c.busy.ensures x h.bank in
    (λ _. inl (subst (λ n. HearsCarrier n x) h.flags (told.0 c.if-busy.true)), λ _. refl)

pub returns : goal.returns
returns c = λ x h.
    let told = subst (λ n. IsTrue c.busy.result ↔ HearsCarrier n x) h.flags (c.busy.ensures x h.bank) in
    either (HearsCarrier 1 x) (HearsBlock x) c.is_block_coming.result
    (subst (λ b. IsTrue b ↔ HearsCarrier 1 x) c.if-busy.false told)
    (c.is_block_coming.ensures x h.given h.so_far)
