-- Signals of transmissions, one after another.
use Rattle.hf_modem.proofs.Common.{◌≡◌, ℕ, List, [], ◌∷◌, ◌++◌, refl, append-nil, Transmission, hf_samples_of}
use Rattle.hf_modem.proofs.Common.{hf_signal}
use Rattle.std.proofs.lemmas.List.Concat.{flat_map-append}

pub hf_signal-none : (level : ℕ) → hf_signal level [] ≡ []
unfolding hf_signal
hf_signal-none level = refl

pub hf_signal-one : (level : ℕ) (t : Transmission) → hf_signal level (t ∷ []) ≡ hf_samples_of level t
unfolding hf_signal
hf_signal-one level t = append-nil (hf_samples_of level t)

pub hf_signal-append : (level : ℕ) (ts us : List Transmission)
    → hf_signal level (ts ++ us) ≡ hf_signal level ts ++ hf_signal level us
unfolding hf_signal
hf_signal-append level ts us = flat_map-append (hf_samples_of level) ts us
