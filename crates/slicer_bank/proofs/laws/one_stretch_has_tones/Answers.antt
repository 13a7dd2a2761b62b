use Rattle.slicer_bank.proofs.ToneLemmas.{tones_of_stretch, busy_by_stretch}
use Rattle.slicer_bank.proofs.laws.one_stretch_has_tones.Goals as goal

pub returns : goal.returns
returns c = λ lanes s all. (tones_of_stretch lanes s all, busy_by_stretch lanes s all)
