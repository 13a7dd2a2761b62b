use Rattle.hdlc_framer.proofs.FrameEnds.{one_frame}
use Rattle.hdlc_framer.proofs.laws.one_frame_ends.Goals as goal

pub returns : goal.returns
returns c = one_frame
