-- No sample of a signal is louder than its level.
use Rattle.hf_modem.proofs.Common.{ℕ, ◌≤◌, ℤ, pos, List, [], ◌∷◌, replicate, unsigned_abs, sym, subst, arith, All}
use Rattle.hf_modem.proofs.Common.{All-nil, All-append, Transmission, hf_samples_of, hf_signal, hf_transmission}
use Rattle.std.proofs.lemmas.List.Elements.{All-replicate}
use Rattle.std.proofs.lemmas.List.Concat.{flat_map-cons}
use Rattle.hf_sender.proofs.LoudnessLemmas.{within-hf_transmission}

abbrev IsWithin : ℕ → ℤ → Type 0
IsWithin level sample = unsigned_abs sample ≤ level

within-hf_samples_of : (level : ℕ) (t : Transmission) → All (IsWithin level) (hf_samples_of level t)
within-hf_samples_of level t =
    All-append (IsWithin level) (replicate t.silence (pos 0)) (hf_transmission level t.frames t.opening t.closing)
    (All-replicate (IsWithin level) t.silence (pos 0) (omega arith))
    (within-hf_transmission level t.frames t.opening t.closing)

pub within-hf_signal : (level : ℕ) (sent : List Transmission)
    → All (λ sample. unsigned_abs sample ≤ level) (hf_signal level sent)
unfolding hf_signal
within-hf_signal level [] = All-nil (IsWithin level)
within-hf_signal level (t ∷ sent) =
    subst (All (IsWithin level)) (sym (flat_map-cons (hf_samples_of level) t sent))
    (All-append (IsWithin level) (hf_samples_of level t) (hf_signal level sent) (within-hf_samples_of level t)
    (within-hf_signal level sent))
