-- The deframer has taken a flag and the bits so far, and none of these ended a flag.
use Rattle.fx25_blocks.proofs.Common.{◌++◌, take, flag, NoFlagWithin}
use Rattle.hdlc_framer.specs.Held.{StandsFor}
use Rattle.fx25_blocks.proofs.opening.first_frame.Given as goal

abbrev pub invariant-loop-i : goal.invariant-loop-i
invariant-loop-i l = record { stands : StandsFor l.deframer (flag ++ take l.i l.bits); quiet : NoFlagWithin l.bits l.i }
