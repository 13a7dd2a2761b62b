use Rattle.hf_modem.proofs.Common.{◌≡◌, ◌+◌, ◌/◌, All, take}
use Rattle.block_receiver.specs.Hearing.{CanBePutFrom}
use Rattle.hf_modem.proofs.HearingLemmas.{HasHeard}
use Rattle.hf_modem.proofs.block_hearing.hear_block.Given as goal

abbrev pub invariant-loop-sample : goal.invariant-loop-sample
invariant-loop-sample l = record {
  position : l.bank.position ≡ l.initial.bank.position + l.sample-index;
  heard : HasHeard l.initial.bank l.bank (take l.sample-index l.block) l.found.items;
  bounds : All (CanBePutFrom 32 (l.initial.bank.position / 4)) l.found.items;
}
