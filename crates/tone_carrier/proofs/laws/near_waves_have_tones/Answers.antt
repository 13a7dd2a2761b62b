use Rattle.tone_carrier.proofs.NearTones.{near_wave_has_tones}
use Rattle.tone_carrier.proofs.laws.near_waves_have_tones.Goals as goal

pub returns : goal.returns
returns c = near_wave_has_tones
