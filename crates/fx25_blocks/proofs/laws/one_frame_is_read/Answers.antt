use Rattle.fx25_blocks.proofs.UnknownLaws.{one_read}
use Rattle.fx25_blocks.proofs.laws.one_frame_is_read.Goals as goal

pub returns : goal.returns
returns c = one_read
