use Rattle.hf_sensitive.proofs.BanksLemmas.{HaveFed}
use Rattle.hf_sensitive.proofs.banks.feed_banks.Given as goal

abbrev pub invariant-loop-index : goal.invariant-loop-index
invariant-loop-index l = HaveFed l.position l.index l.initial.banks.items l.banks.items l.block l.found.items
