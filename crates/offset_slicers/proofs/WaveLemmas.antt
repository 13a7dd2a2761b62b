-- A wave is heard as it was sent: its windows are pure, so its tones and bits come back.
use Rattle.offset_slicers.proofs.Common.{◌≡◌, ℕ, ◌+◌, ◌*◌, ◌%◌, ◌<◌, ℤ, List, [], ◌∷◌, ◌++◌, Bool, length, refl, ap}
use Rattle.offset_slicers.proofs.Common.{◌∙◌, arith, Tone, Mark, Space, next_phase, pure_window, wave_from, same_tone}
use Rattle.offset_slicers.proofs.Common.{bits_from, last_tone, window_at, tones_at, bits}
use Rattle.tone_table.specs.Wave.{wave}
use Rattle.nrzi_bits.specs.Line.{sent_tone, line}
use Rattle.nrzi_bits.proofs.LineLemmas.{bits_from-line_from}
use Rattle.offset_slicers.proofs.PureWindows.{tone_of-pure_window}
use Rattle.offset_slicers.proofs.WindowLemmas.{tones_at-aligned, bits-aligned}

pub length-pure_window : (phase : ℕ) (tone : Tone) → length (pure_window phase tone) ≡ 8
unfolding pure_window
length-pure_window phase tone = refl

-- a window of one tone has that tone alone
tones_at-pure_window : (k : ℕ) (tone : Tone) → k < 6 → tones_at 0 (pure_window (8 * k) tone) ≡ tone ∷ []
unfolding tones_at window_at pure_window
tones_at-pure_window k tone below = ap (λ t. t ∷ []) (tone_of-pure_window k tone below)

-- a bit ends at one of the phases at which a bit can begin
pub next_phase-sixth : (k : ℕ) (tone : Tone) → k < 6 → (j : ℕ) × (j < 6) × (next_phase (8 * k) tone ≡ 8 * j)
next_phase-sixth k Mark below = (k, below, omega arith)
next_phase-sixth k Space below = ((k + 11) % 6, omega arith, omega arith)

-- the tones of a wave are those that made it
pub tones_at-wave_from : (tones : List Tone) (k : ℕ) → k < 6 → tones_at 0 (wave_from (8 * k) tones) ≡ tones
unfolding tones_at
tones_at-wave_from [] k below = refl
tones_at-wave_from (tone ∷ tones) k below =
    let next = next_phase-sixth k tone below in
    let rest : tones_at 0 (wave_from (next_phase (8 * k) tone) tones) ≡ tones
    = ap (λ phase. tones_at 0 (wave_from phase tones)) next.2 ∙ tones_at-wave_from tones next.0 next.1 in
    tones_at-aligned 0 1 (pure_window (8 * k) tone) (wave_from (next_phase (8 * k) tone) tones)
    (length-pure_window (8 * k) tone)
    ∙ ap (λ first. first ++ tones_at 0 (wave_from (next_phase (8 * k) tone) tones)) (tones_at-pure_window k tone below)
    ∙ ap (λ ts. tone ∷ ts) rest

-- after whole windows of anything, all bits of a wave but its first come back
pub bits-wave : (offset q : ℕ) (x : List ℤ) (bit : Bool) (sent : List Bool) → length x ≡ offset + 8 * q
    → bits offset (x ++ wave (line (bit ∷ sent)))
    ≡ bits offset x ++ same_tone (last_tone (tones_at offset x)) (sent_tone Mark bit) ∷ sent
bits-wave offset q x bit sent whole =
    let before : Tone = last_tone (tones_at offset x) in
    bits-aligned offset q x (wave (line (bit ∷ sent))) whole
    ∙ ap (λ tones. bits offset x ++ bits_from before tones) (tones_at-wave_from (line (bit ∷ sent)) 0 (omega arith))
    ∙ ap (λ bs. bits offset x ++ same_tone before (sent_tone Mark bit) ∷ bs)
    (bits_from-line_from (sent_tone Mark bit) sent)
