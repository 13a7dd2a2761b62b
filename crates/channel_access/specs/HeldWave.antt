-- The wave of a transmission as the code keeps it, by its modem. No public clause cites it.
use Rattle.std.specs.Prelude.{ℤ, List, [], ◌∷◌}
use Rattle.tone_table.specs.declared.tone.Tone.{Tone}
use Rattle.afsk_modulator.specs.Modulation.{full, tone_window, following}
use Rattle.hf_sender.specs.Modulation.{hf_window, hf_after}
use Rattle.channel_access.specs.declared.modem.Modem.{Modem}
use Rattle.channel_access.specs.declared.modem.Modem.TheVariants.{Bell202, ShortWave, Fx25}
use Rattle.channel_access.specs.declared.wave.Wave.{Wave}
use Rattle.channel_access.specs.declared.wave.Wave.TheVariants.{Bell202 as OfBell202, ShortWave as OfShortWave, Fx25 as OfFx25}

abbrev pub modem_of : Wave → Modem
modem_of (OfBell202 m) = Bell202
modem_of (OfShortWave m) = ShortWave
modem_of (OfFx25 checks m) = Fx25 checks

-- after some tones from phase 0 on, at full level
abbrev pub wave_after : Modem → List Tone → Wave
wave_after Bell202 tones = OfBell202 (following full tones)
wave_after ShortWave tones = OfShortWave (hf_after full tones)
wave_after (Fx25 checks) tones = OfFx25 checks (following full tones)

-- before the first of them
abbrev pub wave_start : Modem → Wave
wave_start modem = wave_after modem []

-- the samples of a tone, and the wave after it
abbrev pub wave_window : Wave → Tone → List ℤ
wave_window (OfBell202 m) tone = tone_window m tone
wave_window (OfShortWave m) tone = hf_window m tone
wave_window (OfFx25 checks m) tone = tone_window m tone

abbrev pub after_tone : Wave → Tone → Wave
after_tone (OfBell202 m) tone = OfBell202 (following m (tone ∷ []))
after_tone (OfShortWave m) tone = OfShortWave (hf_after m (tone ∷ []))
after_tone (OfFx25 checks m) tone = OfFx25 checks (following m (tone ∷ []))
