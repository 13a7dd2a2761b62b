use Rattle.reed_solomon.proofs.Common.{◌≡◌, false, replicate}
use Rattle.reed_solomon.proofs.decoder.none_unknown.Given as goal

abbrev pub invariant-loop : goal.invariant-loop
invariant-loop l = l.flags.items ≡ replicate l.counter false
