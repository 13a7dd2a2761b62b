use Rattle.fx25_blocks.proofs.Common.{arith}
use Rattle.fx25_blocks.proofs.DamageLemmas.{few_octets}
use Rattle.fx25_blocks.proofs.TagFacts.{even_checks}
use Rattle.fx25_blocks.proofs.laws.one_stretch_is_repaired.Goals as goal

pub returns : goal.returns
returns c = λ word block tag start count is_tag fit also size differ most.
    omega (arith, few_octets word block start count fit also size differ, even_checks tag is_tag)
