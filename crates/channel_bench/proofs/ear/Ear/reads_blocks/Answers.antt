-- It reads blocks if its kind does.
use Rattle.channel_bench.proofs.Common.{sym}
use Rattle.channel_bench.proofs.EarLemmas.{block_ear, plain_ear}
use Rattle.channel_bench.proofs.ear.Ear.reads_blocks.Goals as goal

pub returns-in-Plain : goal.returns-in-Plain
returns-in-Plain c = λ blocks x h. sym (plain_ear c.args.self.now c.in-Plain.field-0 blocks x c.in-Plain.is h).0

pub returns-in-Blocks : goal.returns-in-Blocks
returns-in-Blocks c = λ blocks x h. sym (block_ear c.args.self.now c.in-Blocks.field-0 blocks x c.in-Blocks.is h).0
