-- Transmissions by any modem: Bell 202, that of short wave, or Bell 202 with check octets (FX.25).
use Rattle.std.specs.Prelude.{ℕ, ℤ, List}
use Rattle.afsk_modulator.specs.Level.{at_level}
use Rattle.afsk_modulator.specs.Signal.{Transmission, samples_of, signal_at}
use Rattle.afsk_modulator.specs.Transmission.{transmission_at}
use Rattle.fx25_sender.specs.Signal.{fx25_samples_of, fx25_signal}
use Rattle.fx25_sender.specs.Transmission.{fx25_transmission}
use Rattle.hf_modem.specs.Signal.{hf_samples_of, hf_signal}
use Rattle.hf_sender.specs.Transmission.{hf_transmission}
use Rattle.tnc_words.specs.Sending.{count_of}
use Rattle.tnc_words.specs.declared.command.Modem.{Modem}
use Rattle.tnc_words.specs.declared.command.Modem.TheVariants.{Bell202, ShortWave, Fx25}

-- the samples of flags and frames, from phase 0 on and at a level
unfoldable pub transmission_by : Modem → ℕ → List (List ℕ) → ℕ → ℕ → List ℤ
transmission_by Bell202 level frames opening closing = transmission_at 0 level frames opening closing
transmission_by ShortWave level frames opening closing = hf_transmission level frames opening closing
transmission_by (Fx25 checks) level frames opening closing =
    fx25_transmission (count_of checks) level frames opening closing

-- the samples of a transmission with the silence before it
abbrev pub samples_by : Modem → ℕ → Transmission → List ℤ
samples_by Bell202 level t = at_level level (samples_of t)
samples_by ShortWave level t = hf_samples_of level t
samples_by (Fx25 checks) level t = fx25_samples_of (count_of checks) level t

-- the samples of transmissions, one after the other
unfoldable pub signal_by : Modem → ℕ → List Transmission → List ℤ
signal_by Bell202 level transmissions = signal_at level transmissions
signal_by ShortWave level transmissions = hf_signal level transmissions
signal_by (Fx25 checks) level transmissions = fx25_signal (count_of checks) level transmissions
