use Rattle.tone_carrier.proofs.ConstantLemmas.{constant_has_no_tones}
use Rattle.tone_carrier.proofs.laws.constants_have_no_tones.Goals as goal

pub returns : goal.returns
returns c = constant_has_no_tones
