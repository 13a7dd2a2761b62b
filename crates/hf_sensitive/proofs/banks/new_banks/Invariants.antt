use Rattle.hf_sensitive.proofs.BanksLemmas.{AreFresh}
use Rattle.hf_sensitive.proofs.banks.new_banks.Given as goal

abbrev pub invariant-loop-number : goal.invariant-loop-number
invariant-loop-number l = AreFresh l.banks.items l.number
