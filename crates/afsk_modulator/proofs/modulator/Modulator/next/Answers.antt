use Rattle.std.proofs.Common.{◌++◌, ◌∙◌, ap, sym}
use Rattle.afsk_modulator.specs.Modulation.{Modulation, wave_of}
use Rattle.afsk_modulator.proofs.WaveLemmas.{following-push, wave_of-push}
use Rattle.afsk_modulator.proofs.modulator.Modulator.next.Goals as goal

abbrev now : goal.After-self-1 → Modulation
now c = record { phase = c.self.inside.phase; level = c.self.inside.level }

pub returns-clause-stands_for : goal.returns-clause-stands_for
returns-clause-stands_for c = λ start tones at.
    ap (λ phase. record (now c) { phase = phase }) c.advance-self-inside.ensures.phase
    ∙ following-push start tones c.args.tone (now c) (c.self.view_is ∙ at)

pub returns-clause-wave : goal.returns-clause-wave
returns-clause-wave c = λ start tones at.
    wave_of-push start tones c.args.tone (now c) (c.self.view_is ∙ at)
    ∙ ap (λ w. wave_of start tones ++ w) (sym c.window-window.ensures)
