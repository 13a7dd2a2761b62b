-- Signals of transmissions, one after another.
use Rattle.fx25_sender.proofs.Common.{◌≡◌, ℕ, List, [], ◌∷◌, ◌++◌, refl, append-nil, Transmission, fx25_samples_of}
use Rattle.fx25_sender.proofs.Common.{fx25_signal}
use Rattle.std.proofs.lemmas.List.Concat.{flat_map-append}

pub fx25_signal-none : (checks level : ℕ) → fx25_signal checks level [] ≡ []
unfolding fx25_signal
fx25_signal-none checks level = refl

pub fx25_signal-one : (checks level : ℕ) (t : Transmission)
    → fx25_signal checks level (t ∷ []) ≡ fx25_samples_of checks level t
unfolding fx25_signal
fx25_signal-one checks level t = append-nil (fx25_samples_of checks level t)

pub fx25_signal-append : (checks level : ℕ) (ts us : List Transmission)
    → fx25_signal checks level (ts ++ us) ≡ fx25_signal checks level ts ++ fx25_signal checks level us
unfolding fx25_signal
fx25_signal-append checks level ts us = flat_map-append (fx25_samples_of checks level) ts us
