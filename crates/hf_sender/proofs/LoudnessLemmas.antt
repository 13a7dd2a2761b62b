-- No sample that is sent is louder than its level.
use Rattle.hf_sender.proofs.Common.{ℕ, ◌+◌, ◌*◌, ◌≤◌, ℤ, List, [], ◌∷◌, unsigned_abs, range_with_len, Tone, wave_sample}
use Rattle.hf_sender.proofs.Common.{line, sample_at, at_level, unsigned_abs-sample_at, phase_step, next_phase}
use Rattle.hf_sender.proofs.Common.{pure_window, wave_from, hf_transmission}
use Rattle.std.proofs.Common.{get_or}
use Rattle.std.specs.List.{All}
use Rattle.std.proofs.lemmas.List.Elements.{All-map, All-nil, All-append}
use Rattle.tone_table.proofs.SineLemmas.{unsigned_abs-wave_sample}
use Rattle.hdlc_framer.specs.Body.{body}

abbrev IsWithin : ℕ → ℤ → Type 0
IsWithin level sample = unsigned_abs sample ≤ level

within-pure_window : (phase : ℕ) (tone : Tone) → All (IsWithin 10000) (pure_window phase tone)
unfolding pure_window
within-pure_window phase tone =
    All-map (IsWithin 10000) (λ i. wave_sample (phase + i * phase_step tone)) (range_with_len 0 32)
    (λ k d below. unsigned_abs-wave_sample (phase + get_or (range_with_len 0 32) k d * phase_step tone))

within-wave_from : (phase : ℕ) (tones : List Tone) → All (IsWithin 10000) (wave_from phase tones)
within-wave_from phase [] = All-nil (IsWithin 10000)
within-wave_from phase (tone ∷ tones) =
    All-append (IsWithin 10000) (pure_window phase tone) (wave_from (next_phase phase tone) tones)
    (within-pure_window phase tone) (within-wave_from (next_phase phase tone) tones)

pub within-hf_transmission : (level : ℕ) (frames : List (List ℕ)) (opening closing : ℕ)
    → All (λ sample. unsigned_abs sample ≤ level) (hf_transmission level frames opening closing)
unfolding hf_transmission at_level
within-hf_transmission level frames opening closing =
    let wave : List ℤ = wave_from 0 (line (body frames opening closing)) in
    All-map (IsWithin level) (sample_at level) wave
    (λ k d below. unsigned_abs-sample_at level (get_or wave k d)
    (within-wave_from 0 (line (body frames opening closing)) k d below))
