use Rattle.fx25_sender.proofs.Common.{◌∙◌, fx25_transmission}
use Rattle.nrzi_bits.specs.Line.{line}
use Rattle.afsk_modulator.specs.Modulation.{wave_of}
use Rattle.fx25_sender.proofs.sending.fx25_transmission.Goals as goal

pub returns-clause-sent : goal.returns-clause-sent
unfolding fx25_transmission
returns-clause-sent c =
    c.in_ok-modulated.ensures
    ∙ (λ i. wave_of (c.start.ensures i) (line ((c.deref.ensures.value ∙ c.in_ok-bits.ensures) i)))
