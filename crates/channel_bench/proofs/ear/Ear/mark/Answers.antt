-- As the kind of ear says.
use Rattle.channel_bench.proofs.EarLemmas.{block_ear, plain_ear}
use Rattle.channel_bench.proofs.ear.Ear.mark.Goals as goal

pub returns-in-Plain : goal.returns-in-Plain
returns-in-Plain c = λ blocks x h.
    c.mark.ensures x (plain_ear c.args.self.now c.in-Plain.ear blocks x c.in-Plain.is h).1

pub returns-in-Blocks : goal.returns-in-Blocks
returns-in-Blocks c = λ blocks x h.
    c.mark-in-Blocks.ensures x (block_ear c.args.self.now c.in-Blocks.ear blocks x c.in-Blocks.is h).1
