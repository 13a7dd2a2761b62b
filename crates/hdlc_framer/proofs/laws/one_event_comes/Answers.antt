use Rattle.hdlc_framer.proofs.FrameEnds.{one_event}
use Rattle.hdlc_framer.proofs.laws.one_event_comes.Goals as goal

pub returns : goal.returns
returns c = one_event
