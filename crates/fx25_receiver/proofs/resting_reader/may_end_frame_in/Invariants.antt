use Rattle.fx25_receiver.proofs.Common.{List, Bool, ◌++◌}
use Rattle.hdlc_framer.specs.BitOrder.{low_bits}
use Rattle.fx25_receiver.specs.Resting.{IsLast64}
use Rattle.fx25_receiver.proofs.QuietLemmas.{NoFrameEnds}
use Rattle.fx25_receiver.proofs.resting_reader.may_end_frame_in.Given as goal

abbrev pub invariant-loop-place : goal.invariant-loop-place
invariant-loop-place l = (b : List Bool) → IsLast64 l.register b
    → IsLast64 l.last (b ++ low_bits l.place l.octet) × NoFrameEnds l.place b l.octet
