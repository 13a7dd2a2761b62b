-- Samples near a wave are heard as the wave is: window by window they are near pure ones.
use Rattle.std.proofs.Common.{◌≡◌, ℕ, ◌+◌, ◌-◌, ◌*◌, ◌/◌, ◌%◌, ◌<◌, ◌≤◌, ℤ, List, [], ◌∷◌, ◌++◌, length, map, take}
use Rattle.std.proofs.Common.{drop, subst, refl, ap, sym, ◌∙◌, arith}
use Rattle.std.specs.List.{range_with_len}
use Rattle.std.proofs.lemmas.List.{take_all, take-append-drop}
use Rattle.tone_table.specs.declared.tone.Tone.{Tone}
use Rattle.tone_table.specs.declared.tone.Tone.TheVariants.{Mark, Space}
use Rattle.hf_sender.specs.Tones.{next_phase}
use Rattle.hf_sender.specs.Wave.{pure_window, wave_from}
use Rattle.hf_modem.specs.Decision.{tone_of}
use Rattle.hf_modem.specs.Windows.{window_at, tones_at}
use Rattle.offset_slicers.specs.Near.{IsNear}
use Rattle.offset_slicers.proofs.NearWaves.{near-front, near-back}
use Rattle.hf_modem.proofs.WindowLemmas.{tones_at-aligned}
use Rattle.hf_signal.proofs.NearWindows.{tone_of-near, length-pure_window}

-- a bit ends at one of the phases at which a bit can begin
next_phase-third : (k : ℕ) (tone : Tone) → k < 3 → (j : ℕ) × (j < 3) × (next_phase (16 * k) tone ≡ 16 * j)
next_phase-third k Mark below = ((k + 1) % 3, omega arith, omega arith)
next_phase-third k Space below = (k, below, omega arith)

-- a window near a pure one has its tone alone
tones_at-window : (level k : ℕ) (tone : Tone) (x : List ℤ) → 1 ≤ level → k < 3
    → IsNear level (pure_window (16 * k) tone) x → tones_at 0 x ≡ tone ∷ []
unfolding tones_at window_at
tones_at-window level k tone x some below near =
    let whole : length x ≡ 32 = near.size ∙ length-pure_window (16 * k) tone in
    let one : (length x - 0) / 32 ≡ 1 = omega arith in
    ap (λ n. map (λ j. tone_of (window_at 0 x j)) (range_with_len 0 n)) one
    ∙ ap (λ w. tone_of w ∷ []) (take_all 32 x (omega arith))
    ∙ ap (λ t. t ∷ []) (tone_of-near level k tone x some below near)

no_tones : (x : List ℤ) → length x ≡ 0 → tones_at 0 x ≡ []
unfolding tones_at
no_tones [] none = refl
no_tones (z ∷ x) none = absurd (omega arith)

-- the tones of samples near a wave are those that made it
pub tones_at-near : (level : ℕ) (tones : List Tone) (k : ℕ) (x : List ℤ) → 1 ≤ level → k < 3
    → IsNear level (wave_from (16 * k) tones) x → tones_at 0 x ≡ tones
tones_at-near level [] k x some below near = no_tones x near.size
tones_at-near level (tone ∷ tones) k x some below near =
    let next = next_phase-third k tone below in
    let front = near-front level (pure_window (16 * k) tone) (wave_from (next_phase (16 * k) tone) tones) x 32
    (length-pure_window (16 * k) tone) near in
    let back = near-back level (pure_window (16 * k) tone) (wave_from (next_phase (16 * k) tone) tones) x 32
    (length-pure_window (16 * k) tone) near in
    let rest : tones_at 0 (drop 32 x) ≡ tones
    = tones_at-near level tones next.0 (drop 32 x) some next.1
    (subst (λ phase. IsNear level (wave_from phase tones) (drop 32 x)) next.2 back) in
    ap (tones_at 0) (sym (take-append-drop 32 x))
    ∙ tones_at-aligned 0 1 (take 32 x) (drop 32 x) (front.size ∙ length-pure_window (16 * k) tone)
    ∙ (λ i. tones_at-window level k tone (take 32 x) some below front i ++ rest i)
