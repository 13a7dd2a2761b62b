use Rattle.clean_signal.proofs.Common.{wave_from, line, body}
use Rattle.afsk_modulator.specs.Transmission.{transmission_at}
use Rattle.clean_signal.proofs.NearLemmas.{at_level-near, signal_at-near}
use Rattle.clean_signal.proofs.laws.sent_is_near.Goals as goal

pub returns-clause-transmission : goal.returns-clause-transmission
unfolding transmission_at
returns-clause-transmission c =
    λ phase level frames opening closing. at_level-near level (wave_from phase (line (body frames opening closing)))

pub returns-clause-signal : goal.returns-clause-signal
returns-clause-signal c = signal_at-near
