-- Signals of transmissions, one after another, at a level.
use Rattle.std.proofs.Common.{◌≡◌, ℕ, pos, List, [], ◌∷◌, ◌++◌, replicate, refl, ap, ◌∙◌}
use Rattle.std.proofs.lemmas.List.{append-nil}
use Rattle.std.proofs.lemmas.List.Concat.{flat_map-append}
use Rattle.afsk_modulator.specs.Level.{at_level}
use Rattle.afsk_modulator.specs.Transmission.{transmission, transmission_at}
use Rattle.afsk_modulator.specs.Signal.{Transmission, samples_of, signal, signal_at}
use Rattle.afsk_modulator.proofs.LevelLemmas.{at_level-append, at_level-silence}

-- one transmission at a level: its silence, and the rest from phase 0 on
pub at_level-samples_of : (level : ℕ) (t : Transmission)
    → at_level level (samples_of t) ≡ replicate t.silence (pos 0)
    ++ transmission_at 0 level t.frames t.opening t.closing
unfolding transmission transmission_at
at_level-samples_of level t =
    at_level-append level (replicate t.silence (pos 0)) (transmission t.frames t.opening t.closing)
    ∙ ap (λ xs. xs ++ transmission_at 0 level t.frames t.opening t.closing) (at_level-silence level t.silence)

pub signal_at-none : (level : ℕ) → signal_at level [] ≡ []
unfolding signal_at signal at_level
signal_at-none level = refl

pub signal_at-one : (level : ℕ) (t : Transmission) → signal_at level (t ∷ []) ≡ at_level level (samples_of t)
unfolding signal_at signal
signal_at-one level t = ap (at_level level) (append-nil (samples_of t))

pub signal_at-append : (level : ℕ) (ts us : List Transmission)
    → signal_at level (ts ++ us) ≡ signal_at level ts ++ signal_at level us
unfolding signal_at signal
signal_at-append level ts us =
    ap (at_level level) (flat_map-append samples_of ts us) ∙ at_level-append level (signal ts) (signal us)
