-- Waves and lines, one tone or bit more at a time.
use Rattle.std.proofs.Common.{◌≡◌, ℕ, List, [], ◌∷◌, ◌++◌, append_assoc, refl, sym, ap, ◌∙◌}
use Rattle.std.proofs.lemmas.List.{append-nil}
use Rattle.tone_table.specs.declared.tone.Tone.{Tone}
use Rattle.tone_table.specs.Tones.{next_phase}
use Rattle.tone_table.specs.Wave.{pure_window, wave_from, wave}
use Rattle.afsk_modulator.specs.Level.{at_level}
use Rattle.afsk_modulator.specs.Modulation.{Modulation, full, tone_window, wave_of, following}
use Rattle.afsk_modulator.specs.Phase.{phase_from}
use Rattle.afsk_modulator.proofs.LevelLemmas.{at_level-full, at_level-append}

-- the phase after two lists of tones, one after the other
pub phase_from-append : (phase : ℕ) (ts us : List Tone) → phase_from phase (ts ++ us)
    ≡ phase_from (phase_from phase ts) us
phase_from-append phase [] us = refl
phase_from-append phase (t ∷ ts) us = phase_from-append (next_phase phase t) ts us

-- the wave of two lists of tones, one after the other
pub wave_from-append : (phase : ℕ) (ts us : List Tone)
    → wave_from phase (ts ++ us) ≡ wave_from phase ts ++ wave_from (phase_from phase ts) us
wave_from-append phase [] us = refl
wave_from-append phase (t ∷ ts) us =
    ap (λ samples. pure_window phase t ++ samples) (wave_from-append (next_phase phase t) ts us)
    ∙ sym (append_assoc (pure_window phase t) (wave_from (next_phase phase t) ts)
    (wave_from (phase_from (next_phase phase t) ts) us))

-- where a wave goes on after one tone more
pub following-push : (start : Modulation) (tones : List Tone) (tone : Tone) (now : Modulation) → now ≡ following start tones
    → following now (tone ∷ []) ≡ following start (tones ++ tone ∷ [])
following-push start tones tone now at =
    ap (λ m. following m (tone ∷ [])) at
    ∙ ap (λ phase. record start { phase = phase }) (sym (phase_from-append start.phase tones (tone ∷ [])))

-- the wave of one tone more
pub wave_of-push : (start : Modulation) (tones : List Tone) (tone : Tone) (now : Modulation) → now ≡ following start tones
    → wave_of start (tones ++ tone ∷ []) ≡ wave_of start tones ++ tone_window now tone
wave_of-push start tones tone now at =
    let there : Modulation = following start tones in
    ap (at_level start.level) (wave_from-append start.phase tones (tone ∷ [])
    ∙ ap (λ w. wave_from start.phase tones ++ w) (append-nil (pure_window there.phase tone)))
    ∙ at_level-append start.level (wave_from start.phase tones) (pure_window there.phase tone)
    ∙ ap (λ m. wave_of start tones ++ tone_window m tone) (sym at)

-- the same for a transmission at full amplitude
pub wave-push : (tones : List Tone) (tone : Tone) (now : Modulation) → now ≡ following full tones
    → wave (tones ++ tone ∷ []) ≡ wave tones ++ tone_window now tone
wave-push tones tone now at =
    sym (at_level-full (wave (tones ++ tone ∷ [])))
    ∙ wave_of-push full tones tone now at
    ∙ ap (λ w. w ++ tone_window now tone) (at_level-full (wave tones))
