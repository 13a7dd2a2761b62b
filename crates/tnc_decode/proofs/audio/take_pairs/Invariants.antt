-- The octets so far.
use Rattle.tnc_decode.proofs.Common.{length}
use Rattle.tnc_decode.proofs.AudioLemmas.{PairsOn}
use Rattle.tnc_decode.proofs.audio.take_pairs.Given as goal

abbrev pub invariant-loop-rest : goal.invariant-loop-rest
invariant-loop-rest l = PairsOn l.octets l.rest l.initial.samples.items l.samples.items

abbrev pub decreases-loop-rest : goal.decreases-loop-rest
decreases-loop-rest l = length l.rest
