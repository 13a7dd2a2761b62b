use Rattle.live_receiver.proofs.OneStretch.{all_as_decoded, as_decoded}
use Rattle.live_receiver.proofs.laws.short_wave_is_heard_as_decoded.Goals as goal

pub returns-clause-plain : goal.returns-clause-plain
returns-clause-plain c = as_decoded

pub returns-clause-sensitive : goal.returns-clause-sensitive
returns-clause-sensitive c = all_as_decoded
