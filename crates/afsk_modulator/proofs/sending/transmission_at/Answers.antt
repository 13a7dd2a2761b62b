use Rattle.std.proofs.Common.{◌∙◌}
use Rattle.nrzi_bits.specs.Line.{line}
use Rattle.afsk_modulator.specs.Modulation.{wave_of}
use Rattle.afsk_modulator.specs.Transmission.{transmission_at}
use Rattle.afsk_modulator.proofs.sending.transmission_at.Goals as goal

pub returns-clause-sent : goal.returns-clause-sent
unfolding transmission_at
returns-clause-sent c =
    c.in_ok-modulated.ensures
    ∙ (λ i. wave_of (c.start.ensures i) (line ((c.deref.ensures.value ∙ c.in_ok-bits.ensures) i)))
