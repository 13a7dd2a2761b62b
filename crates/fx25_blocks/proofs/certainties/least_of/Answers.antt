use Rattle.fx25_blocks.proofs.Common.{arith}
use Rattle.fx25_blocks.proofs.CertaintyLemmas.{least_of-le}
use Rattle.fx25_blocks.proofs.certainties.least_of.Goals as goal

pub loop-number-init : goal.loop-number-init
loop-number-init c = record { value = omega (arith, least_of-le c.args.numbers.now); most = omega arith }
