-- What all lanes hear of samples, and how soon it is settled.
use Rattle.std.specs.Prelude.{◌≡◌, ◌+◌, ◌/◌}
use Rattle.block_receiver.specs.Hearing.{Hearing}
use Rattle.hf_modem.specs.Held.{BankStandsFor}
use Rattle.hf_sensitive.specs.declared.decoder.AllHfLanes.{AllHfLanes}
use Rattle.hf_sensitive.specs.Candidates.{AreHeard}
use Rattle.hf_sensitive.specs.HeldBanks.{AllStandFor, AreAt}
use Rattle.hf_sensitive.specs.MergedItems.{settled}

-- all banks have counted and taken as many samples, and an end is told in fours of samples
abbrev pub all_hf_hearing : Hearing AllHfLanes
all_hf_hearing = record {
  lanes = 59;
  IsAt = λ held count. (held.bank.position ≡ count) × AreAt count held.banks.items;
  HaveTaken = λ held x. BankStandsFor held.bank x × AllStandFor held.banks.items x;
  Heard = AreHeard;
  settled = settled;
  past = λ count. count / 4 + 1;
}
