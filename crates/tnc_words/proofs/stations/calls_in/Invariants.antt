-- The calls so far are those of the parts in front of the rest.
use Rattle.tnc_words.proofs.Common.{length}
use Rattle.std.proofs.Common.{◌-◌}
use denote.Text.{Utf8}
use denote.Shadow.{shadow}
use Rattle.tnc_words.proofs.CallLists.{SpelledSoFar}
use Rattle.tnc_words.proofs.stations.calls_in.Given as goal

abbrev pub decreases-loop-rest : goal.decreases-loop-rest
decreases-loop-rest l = 8 - length l.calls.items

abbrev pub invariant-loop-rest : goal.invariant-loop-rest
invariant-loop-rest l = shadow (Utf8 l.rest) × SpelledSoFar l.text l.rest l.calls.items
