use Rattle.fx25_blocks.proofs.Common.{ℕ, Bool, false}
use Rattle.std.proofs.lemmas.List.{length-replicate}
use Rattle.fx25_blocks.proofs.ComingLemmas.{comes_none}
use Rattle.fx25_blocks.proofs.ReaderLemmas.{kept_none}
use Rattle.fx25_blocks.proofs.block_reader.BlockReader.new.Goals as goal

pub returns-clause-stands_for : goal.returns-clause-stands_for
returns-clause-stands_for c =
    let bits = length-replicate {A = Bool} 2048 false in
    record { kept = kept_none _ _ _ bits (length-replicate {A = ℕ} 2048 0) bits; comes = comes_none }
