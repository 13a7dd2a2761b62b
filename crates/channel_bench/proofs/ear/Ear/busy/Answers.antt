-- As the kind of ear says.
use Rattle.channel_bench.proofs.Common.{IsTrue, ◌↔◌, sym, subst, HearsStation}
use Rattle.channel_bench.proofs.EarLemmas.{block_ear, plain_ear}
use Rattle.channel_bench.proofs.ear.Ear.busy.Goals as goal

pub returns-in-Plain : goal.returns-in-Plain
returns-in-Plain c = λ blocks x h.
    let kind = plain_ear c.args.self.now c.in-Plain.ear blocks x c.in-Plain.is h in
    subst (λ b. IsTrue c.busy.result ↔ HearsStation b x) (sym kind.0) (c.busy.ensures x kind.1)

pub returns-in-Blocks : goal.returns-in-Blocks
returns-in-Blocks c = λ blocks x h.
    let kind = block_ear c.args.self.now c.in-Blocks.ear blocks x c.in-Blocks.is h in
    subst (λ b. IsTrue c.busy-in-Blocks.result ↔ HearsStation b x) (sym kind.0) (c.busy-in-Blocks.ensures x kind.1)
