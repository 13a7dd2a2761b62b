use Rattle.fx25_blocks.proofs.Common.{arith}
use Rattle.fx25_blocks.proofs.RegisterLemmas.{wrong_bits_are}
use Rattle.fx25_blocks.proofs.tag_search.wrong_bits.Goals as goal

pub returns : goal.returns
returns c = wrong_bits_are c.args.register c.args.value (omega arith) (omega arith)
