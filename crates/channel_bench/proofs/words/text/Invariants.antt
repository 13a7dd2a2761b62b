use Rattle.channel_bench.proofs.WordLemmas.{HasDrawn}
use Rattle.channel_bench.proofs.words.text.Given as goal

abbrev pub invariant-loop : goal.invariant-loop
invariant-loop l = HasDrawn l.initial.generator l.generator l.count l.counter l.octets.items
