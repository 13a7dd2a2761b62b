use Rattle.clean_signal.proofs.WaveLemmas.{length-wave_from, wave_place}
use Rattle.clean_signal.proofs.laws.samples_by_place.Goals as goal

pub returns-clause-count : goal.returns-clause-count
returns-clause-count c = length-wave_from 0

pub returns-clause-sample : goal.returns-clause-sample
returns-clause-sample c = wave_place
