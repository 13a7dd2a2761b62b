-- What the eight lanes hear of samples, and how soon it is settled.
use Rattle.std.specs.Prelude.{◌≡◌, ◌+◌}
use Rattle.block_receiver.specs.Hearing.{Hearing}
use Rattle.slicer_bank.specs.Candidates.{AreCandidates}
use Rattle.slicer_bank.specs.Held.{HeldBank, StandsFor}

-- what ends below the number of samples is settled
abbrev pub hearing_of_eight : Hearing HeldBank
hearing_of_eight = record {
  lanes = 8;
  IsAt = λ bank count. bank.position ≡ count;
  HaveTaken = StandsFor;
  Heard = AreCandidates;
  settled = λ count. count;
  past = λ count. count + 1;
}
