-- What all lanes hear of samples, and how soon it is settled.
use Rattle.std.specs.Prelude.{◌≡◌, ◌+◌}
use Rattle.block_receiver.specs.Hearing.{Hearing}
use Rattle.slicer_bank.specs.Held.{StandsFor as BankStandsFor}
use Rattle.sensitive_receiver.specs.declared.decoder.AllLanes.{AllLanes}
use Rattle.sensitive_receiver.specs.Candidates.{AreHeard}
use Rattle.sensitive_receiver.specs.HeldLanes.{StandsFor as AddedStandsFor}
use Rattle.sensitive_receiver.specs.MergedItems.{settled}

-- both banks have counted and taken as many samples
abbrev pub hearing_of_all : Hearing AllLanes
hearing_of_all = record {
  lanes = 26;
  IsAt = λ held count. (held.bank.position ≡ count) × (held.added.position ≡ count);
  HaveTaken = λ held x. BankStandsFor held.bank x × AddedStandsFor held.added x;
  Heard = AreHeard;
  settled = settled;
  past = λ count. count + 1;
}
