use Rattle.hdlc_framer.proofs.LateLemmas.{late_none}
use Rattle.fx25_receiver.proofs.plain_frames.PlainFrames.new.Goals as goal

pub returns : goal.returns
returns c = late_none c.new.result c.new.ensures.stands_for
