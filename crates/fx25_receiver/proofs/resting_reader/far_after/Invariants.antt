use Rattle.fx25_receiver.proofs.Common.{List, Bool, ◌++◌}
use Rattle.fx25_blocks.specs.declared.block_reader.BlockReader.{BlockReader}
use Rattle.hdlc_framer.specs.BitOrder.{low_bits}
use Rattle.fx25_receiver.specs.Ahead.{NoBlockEnds}
use Rattle.fx25_receiver.specs.Resting.{RestsAt}
use Rattle.fx25_receiver.proofs.resting_reader.far_after.Given as goal

abbrev pub invariant-loop-place : goal.invariant-loop-place
invariant-loop-place l = (reader : BlockReader) (b : List Bool) → RestsAt l.register reader b
    → RestsAt l.last reader (b ++ low_bits l.place l.octet) × NoBlockEnds l.place b l.octet
