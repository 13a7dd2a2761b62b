use Rattle.hf_sensitive.proofs.Common.{All, CanBePutFrom, least_end}
use Rattle.hf_sensitive.proofs.BankLemmas.{HasFed}
use Rattle.hf_sensitive.proofs.tracking_bank.TrackingBank.feed.Given as goal

abbrev pub invariant-loop-sample : goal.invariant-loop-sample
invariant-loop-sample l = record {
  fed : HasFed l.initial.self l.self l.block l.initial.found.items l.found.items l.sample-index;
  bounds : All (CanBePutFrom (least_end l.initial.self.tones.count)) l.initial.found.items
      → All (CanBePutFrom (least_end l.initial.self.tones.count)) l.found.items;
}
