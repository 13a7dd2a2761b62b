-- Signals of transmissions by any modem, one after another.
use Rattle.tnc_encode.proofs.Common.{◌≡◌, ℕ, pos, List, [], ◌∷◌, ◌++◌, replicate, refl, Transmission, transmission_by}
use Rattle.tnc_encode.proofs.Common.{signal_by}
use Rattle.afsk_modulator.proofs.SignalLemmas.{at_level-samples_of, signal_at-none, signal_at-one, signal_at-append}
use Rattle.fx25_sender.proofs.SignalLemmas.{fx25_signal-none, fx25_signal-one, fx25_signal-append}
use Rattle.hf_modem.proofs.SignalLemmas.{hf_signal-none, hf_signal-one, hf_signal-append}
use Rattle.tnc_words.specs.Sending.{count_of}
use Rattle.tnc_words.specs.declared.command.Modem.{Modem}
use Rattle.tnc_words.specs.declared.command.Modem.TheVariants.{Bell202, ShortWave, Fx25}
use Rattle.tnc_encode.specs.Sending.{samples_by}

-- a transmission: its silence, and then its flags and frames
pub samples_by-is : (modem : Modem) (level : ℕ) (t : Transmission)
    → samples_by modem level t ≡ replicate t.silence (pos 0) ++ transmission_by modem level t.frames t.opening t.closing
unfolding transmission_by
samples_by-is Bell202 level t = at_level-samples_of level t
samples_by-is ShortWave level t = refl
samples_by-is (Fx25 checks) level t = refl

pub signal_by-none : (modem : Modem) (level : ℕ) → signal_by modem level [] ≡ []
unfolding signal_by
signal_by-none Bell202 level = signal_at-none level
signal_by-none ShortWave level = hf_signal-none level
signal_by-none (Fx25 checks) level = fx25_signal-none (count_of checks) level

pub signal_by-one : (modem : Modem) (level : ℕ) (t : Transmission)
    → signal_by modem level (t ∷ []) ≡ samples_by modem level t
unfolding signal_by
signal_by-one Bell202 level t = signal_at-one level t
signal_by-one ShortWave level t = hf_signal-one level t
signal_by-one (Fx25 checks) level t = fx25_signal-one (count_of checks) level t

pub signal_by-append : (modem : Modem) (level : ℕ) (ts us : List Transmission)
    → signal_by modem level (ts ++ us) ≡ signal_by modem level ts ++ signal_by modem level us
unfolding signal_by
signal_by-append Bell202 level ts us = signal_at-append level ts us
signal_by-append ShortWave level ts us = hf_signal-append level ts us
signal_by-append (Fx25 checks) level ts us = fx25_signal-append (count_of checks) level ts us
