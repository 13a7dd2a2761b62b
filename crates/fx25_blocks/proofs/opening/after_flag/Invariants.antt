use Rattle.fx25_blocks.proofs.Common.{take, flag}
use Rattle.hdlc_framer.specs.Held.{StandsFor}
use Rattle.fx25_blocks.proofs.opening.after_flag.Given as goal

abbrev pub invariant-loop-i : goal.invariant-loop-i
invariant-loop-i l = StandsFor l.deframer (take l.i flag)
