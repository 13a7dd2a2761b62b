-- The table is that of the counts.
use Rattle.fx25_blocks.proofs.Common.{tag_value}
use Rattle.fx25_blocks.proofs.CoarseLemmas.{row_in}
unfoldable use Rattle.fx25_blocks.specs.CoarseCounts.{coarse, packed, row_at}
use Rattle.fx25_blocks.proofs.coarse_counts.row.Goals as goal

pub returns : goal.returns
unfolding row_at packed coarse tag_value
returns c = row_in c.args.piece c.args.bits c.requires.piece c.requires.bits
