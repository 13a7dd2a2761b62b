-- The modems of a channel: how many bits and samples ticks and bits have, and the wave of each, one tone more at a time.
use Rattle.channel_access.proofs.Common.{◌≡◌, ℕ, ◌+◌, ◌*◌, ◌≤◌, ℤ, List, [], ◌∷◌, ◌++◌, length, refl, sym, ap, ◌∙◌}
use Rattle.channel_access.proofs.Common.{arith, body_by, piece, line, Tone, Modem, Bell202, ShortWave, Fx25, Wave, tick_bits}
use Rattle.channel_access.proofs.Common.{bits_of_ticks, samples_of_bits, transmission_by, modem_of, wave_after}
use Rattle.channel_access.proofs.Common.{wave_window, after_tone}
use Rattle.std.proofs.lemmas.List.{length-map}
use Rattle.tone_table.specs.Tones.{next_phase}
use Rattle.tone_table.specs.Wave.{pure_window, wave, wave_from}
use Rattle.afsk_modulator.specs.Level.{sample_at, at_level}
use Rattle.afsk_modulator.specs.Modulation.{full, following}
use Rattle.afsk_modulator.specs.Phase.{phase_from}
use Rattle.afsk_modulator.specs.Transmission.{transmission}
use Rattle.afsk_modulator.proofs.WaveLemmas.{following-push, wave-push, wave_from-append}
use Rattle.hf_sender.specs.Modulation.{hf_after}
use Rattle.hf_sender.specs.Transmission.{hf_transmission}
use Rattle.hf_sender.specs.Wave.{wave as hf_wave, wave_from as hf_wave_from, phase_from as hf_phase_from}
use Rattle.hf_sender.proofs.WaveLemmas.{hf_after-push, wave-append as hf_wave-append, wave-push as hf_wave-push}
use Rattle.hf_sender.proofs.WaveLemmas.{length-wave_from as length-hf_wave_from}
use Rattle.channel_access.specs.declared.wave.Wave.TheVariants.{Bell202 as OfBell202, ShortWave as OfShortWave, Fx25 as OfFx25}
use Rattle.channel_access.proofs.BodyLemmas.{body-plain}
use Rattle.std.proofs.Common.{length-append}

-- ---- bits and samples

pub bits_of_ticks-more : (modem : Modem) (ticks : ℕ)
    → bits_of_ticks modem (ticks + 1) ≡ bits_of_ticks modem ticks + tick_bits modem
bits_of_ticks-more Bell202 ticks = omega arith
bits_of_ticks-more ShortWave ticks = omega arith
bits_of_ticks-more (Fx25 checks) ticks = omega arith

pub bits_of_ticks-none : (modem : Modem) → bits_of_ticks modem 0 ≡ 0
bits_of_ticks-none Bell202 = refl
bits_of_ticks-none ShortWave = refl
bits_of_ticks-none (Fx25 checks) = refl

-- a tick has at most 12 bits
pub tick_bits-most : (modem : Modem) → tick_bits modem ≤ 12
tick_bits-most Bell202 = omega arith
tick_bits-most ShortWave = omega arith
tick_bits-most (Fx25 checks) = omega arith

-- and at least one
pub tick_bits-least : (modem : Modem) → 1 ≤ tick_bits modem
tick_bits-least Bell202 = omega arith
tick_bits-least ShortWave = omega arith
tick_bits-least (Fx25 checks) = omega arith

pub samples_of_bits-more : (modem : Modem) (bits more : ℕ)
    → samples_of_bits modem (bits + more) ≡ samples_of_bits modem bits + samples_of_bits modem more
samples_of_bits-more Bell202 bits more = omega arith
samples_of_bits-more ShortWave bits more = omega arith
samples_of_bits-more (Fx25 checks) bits more = omega arith

pub samples_of_bits-none : (modem : Modem) → samples_of_bits modem 0 ≡ 0
samples_of_bits-none Bell202 = refl
samples_of_bits-none ShortWave = refl
samples_of_bits-none (Fx25 checks) = refl

-- a tick has 96 samples
pub samples_of_bits-tick : (modem : Modem) → samples_of_bits modem (tick_bits modem) ≡ 96
samples_of_bits-tick Bell202 = refl
samples_of_bits-tick ShortWave = refl
samples_of_bits-tick (Fx25 checks) = refl

pub samples_of_bits-ticks : (modem : Modem) (ticks : ℕ) → samples_of_bits modem (bits_of_ticks modem ticks) ≡ 96 * ticks
samples_of_bits-ticks Bell202 ticks = omega arith
samples_of_bits-ticks ShortWave ticks = omega arith
samples_of_bits-ticks (Fx25 checks) ticks = omega arith

-- fewer bits have fewer samples
pub samples_of_bits-fewer : (modem : Modem) (few many : ℕ) → few ≤ many
    → samples_of_bits modem few ≤ samples_of_bits modem many
samples_of_bits-fewer Bell202 few many less = omega arith
samples_of_bits-fewer ShortWave few many less = omega arith
samples_of_bits-fewer (Fx25 checks) few many less = omega arith

-- ---- waves

-- the wave of some tones at full level
abbrev pub modem_wave : Modem → List Tone → List ℤ
modem_wave Bell202 tones = wave tones
modem_wave ShortWave tones = at_level 10000 (hf_wave tones)
modem_wave (Fx25 checks) tones = wave tones

pub transmission_by-is : (modem : Modem) (frames : List (List ℕ)) (opening closing : ℕ)
    → transmission_by modem frames opening closing ≡ modem_wave modem (line (body_by modem frames opening closing))
unfolding transmission_by transmission hf_transmission piece
transmission_by-is Bell202 frames opening closing =
    ap (λ bits. wave (line bits)) (sym (body-plain Bell202 (λ octets. refl) frames opening closing))
transmission_by-is ShortWave frames opening closing =
    ap (λ bits. at_level 10000 (hf_wave (line bits))) (sym (body-plain ShortWave (λ octets. refl) frames opening closing))
transmission_by-is (Fx25 checks) frames opening closing = refl

-- the wave of two lists of tones, one after the other
pub modem_wave-append : (modem : Modem) (ts us : List Tone)
    → (later : List ℤ) × (modem_wave modem (ts ++ us) ≡ modem_wave modem ts ++ later)
modem_wave-append Bell202 ts us = (wave_from (phase_from 0 ts) us, wave_from-append 0 ts us)
modem_wave-append ShortWave ts us =
    (at_level 10000 (hf_wave_from (hf_phase_from 0 ts) us), hf_wave-append 10000 ts us)
modem_wave-append (Fx25 checks) ts us = (wave_from (phase_from 0 ts) us, wave_from-append 0 ts us)

-- the wave of one tone more
next_window : (modem : Modem) (tones : List Tone) (tone : Tone)
    → modem_wave modem (tones ++ tone ∷ []) ≡ modem_wave modem tones ++ wave_window (wave_after modem tones) tone
next_window Bell202 tones tone = wave-push tones tone (following full tones) refl
next_window ShortWave tones tone = hf_wave-push 10000 tones tone (hf_after full tones) refl
next_window (Fx25 checks) tones tone = wave-push tones tone (following full tones) refl

pub modem_wave-push : (modem : Modem) (tones : List Tone) (tone : Tone) (now : Wave) → now ≡ wave_after modem tones
    → modem_wave modem (tones ++ tone ∷ []) ≡ modem_wave modem tones ++ wave_window now tone
modem_wave-push modem tones tone now at =
    next_window modem tones tone ∙ ap (λ w. modem_wave modem tones ++ wave_window w tone) (sym at)

-- where a wave goes on after one tone more
goes_on : (modem : Modem) (tones : List Tone) (tone : Tone)
    → after_tone (wave_after modem tones) tone ≡ wave_after modem (tones ++ tone ∷ [])
goes_on Bell202 tones tone = ap OfBell202 (following-push full tones tone (following full tones) refl)
goes_on ShortWave tones tone = ap OfShortWave (hf_after-push full tones tone (hf_after full tones) refl)
goes_on (Fx25 checks) tones tone = ap (OfFx25 checks) (following-push full tones tone (following full tones) refl)

pub wave_after-push : (modem : Modem) (tones : List Tone) (tone : Tone) (now : Wave) → now ≡ wave_after modem tones
    → after_tone now tone ≡ wave_after modem (tones ++ tone ∷ [])
wave_after-push modem tones tone now at = ap (λ w. after_tone w tone) at ∙ goes_on modem tones tone

-- the modem of a wave
pub modem_of-following : (modem : Modem) (tones : List Tone) → modem_of (wave_after modem tones) ≡ modem
modem_of-following Bell202 tones = refl
modem_of-following ShortWave tones = refl
modem_of-following (Fx25 checks) tones = refl

pub modem_of-after : (now : Wave) (tone : Tone) → modem_of (after_tone now tone) ≡ modem_of now
modem_of-after (OfBell202 m) tone = refl
modem_of-after (OfShortWave m) tone = refl
modem_of-after (OfFx25 checks m) tone = refl

-- ---- how long a wave is

length-pure_window : (phase : ℕ) (tone : Tone) → length (pure_window phase tone) ≡ 8
unfolding pure_window
length-pure_window phase tone = refl

length-wave_from : (phase : ℕ) (tones : List Tone) → length (wave_from phase tones) ≡ 8 * length tones
length-wave_from phase [] = refl
length-wave_from phase (tone ∷ tones) = omega (
  arith,
  length-append (pure_window phase tone) (wave_from (next_phase phase tone) tones),
  length-pure_window phase tone,
  length-wave_from (next_phase phase tone) tones,
)

pub length-modem_wave : (modem : Modem) (tones : List Tone)
    → length (modem_wave modem tones) ≡ samples_of_bits modem (length tones)
unfolding at_level
length-modem_wave Bell202 tones = length-wave_from 0 tones
length-modem_wave ShortWave tones = length-map (hf_wave tones) (sample_at 10000) ∙ length-hf_wave_from 0 tones
length-modem_wave (Fx25 checks) tones = length-wave_from 0 tones
