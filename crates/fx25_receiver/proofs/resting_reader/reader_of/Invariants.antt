use Rattle.fx25_receiver.proofs.Common.{◌≤◌}
use Rattle.fx25_blocks.specs.Held.{StandsFor}
use Rattle.hdlc_framer.specs.BitOrder.{low_bits}
use Rattle.fx25_receiver.proofs.resting_reader.reader_of.Given as goal

abbrev pub invariant-loop-place : goal.invariant-loop-place
invariant-loop-place l = record {
  stands : StandsFor l.reader (low_bits l.place l.register);
  taken : l.reader.taken ≤ l.place;
}
