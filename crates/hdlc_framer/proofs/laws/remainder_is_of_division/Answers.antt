use Rattle.hdlc_framer.proofs.CheckSequenceLemmas.{remainder-is}
use Rattle.hdlc_framer.proofs.laws.remainder_is_of_division.Goals as goal

pub returns : goal.returns
returns c = remainder-is
