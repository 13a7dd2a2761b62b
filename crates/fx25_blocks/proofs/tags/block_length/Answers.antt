use Rattle.fx25_blocks.proofs.Common.{arith}
use Rattle.fx25_blocks.proofs.TagFacts.{most_octets}
use Rattle.fx25_blocks.proofs.tags.block_length.Goals as goal

pub returns-clause-most : goal.returns-clause-most
returns-clause-most c = omega (arith, most_octets c.args.tag c.requires)
