-- What the 32 lanes hear of samples, and how soon it is settled.
use Rattle.std.specs.Prelude.{◌≡◌, ◌+◌, ◌/◌}
use Rattle.block_receiver.specs.Hearing.{Hearing}
use Rattle.hf_modem.specs.Candidates.{AreCandidates}
use Rattle.hf_modem.specs.Held.{HeldBank, BankStandsFor}

-- an end is told in fours of samples, and what ends below a quarter of their number is settled
abbrev pub hf_hearing : Hearing HeldBank
hf_hearing = record {
  lanes = 32;
  IsAt = λ bank count. bank.position ≡ count;
  HaveTaken = BankStandsFor;
  Heard = AreCandidates;
  settled = λ count. count / 4;
  past = λ count. count / 4 + 1;
}
