use Rattle.tone_tracking.proofs.Common.{arith, ints}
use Rattle.tone_tracking.proofs.PhasorLemmas.{phasor_is}
use Rattle.tone_tracking.proofs.phasor.Phasor.plus.Goals as goal

pub returns : goal.returns
returns c = phasor_is _ _ (omega (arith, ints)) (omega (arith, ints))
