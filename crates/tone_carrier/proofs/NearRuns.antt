-- All windows of samples near a wave: each runs on from the one before.
use Rattle.std.proofs.Common.{◌≡◌, ℕ, zero, suc, ◌*◌, ◌<◌, ◌≤◌, ℤ, List, [], ◌∷◌, ◌++◌, length, map, take, drop, true}
use Rattle.std.proofs.Common.{ap, sym, subst, ◌∙◌, arith}
use Rattle.std.specs.List.{range_with_len}
use Rattle.std.proofs.lemmas.List.{take-append-drop, take_all}
use Rattle.std.proofs.lemmas.List.FromFn.{length-map-range_with_len}
use Rattle.tone_table.specs.declared.tone.Tone.{Tone}
use Rattle.tone_table.specs.Tones.{next_phase}
use Rattle.tone_table.specs.Wave.{pure_window, wave_from}
use Rattle.offset_slicers.specs.Near.{IsNear}
use Rattle.offset_slicers.specs.Windows.{windows_in, window_at}
use Rattle.offset_slicers.proofs.NearWaves.{near-front, near-back}
use Rattle.offset_slicers.proofs.WaveLemmas.{length-pure_window, next_phase-sixth}
use Rattle.tone_carrier.specs.declared.heard_window.HeardWindow.{HeardWindow}
use Rattle.tone_carrier.specs.HeardWindows.{heard_window}
use Rattle.tone_carrier.specs.RunsOn.{runs_on}
use Rattle.tone_carrier.specs.Evidence.{heard_at}
use Rattle.tone_carrier.specs.Tones.{heard_windows}
use Rattle.tone_carrier.proofs.WindowLemmas.{heard, heard_windows-aligned}
use Rattle.tone_carrier.proofs.NearPairs.{next_runs_on}

one_window : (x : List ℤ) → length x ≡ 8 → heard_windows 0 x ≡ heard_window x ∷ []
unfolding heard_windows window_at
one_window x whole =
    let one : windows_in 0 (length x) ≡ 1 = omega arith in
    ap (λ n. map (heard 0 x) (range_with_len 0 n)) one ∙ ap (λ w. heard_window w ∷ []) (take_all 8 x (omega arith))

no_windows : (x : List ℤ) → length x ≡ 0 → length (heard_windows 0 x) ≡ 0
unfolding heard_windows
no_windows x none =
    let zero_windows : windows_in 0 (length x) ≡ 0 = omega arith in
    length-map-range_with_len (heard 0 x) 0 (windows_in 0 (length x)) ∙ zero_windows

first_and_rest : (x : List ℤ) → length (take 8 x) ≡ 8
    → heard_windows 0 x ≡ heard_window (take 8 x) ∷ heard_windows 0 (drop 8 x)
first_and_rest x whole =
    ap (heard_windows 0) (sym (take-append-drop 8 x))
    ∙ heard_windows-aligned 0 1 (take 8 x) (drop 8 x) whole
    ∙ ap (λ ws. ws ++ heard_windows 0 (drop 8 x)) (one_window (take 8 x) whole)

abbrev pub AllRunOn : List HeardWindow → Type 0
AllRunOn windows =
    (k : ℕ) → suc k < length windows → runs_on (heard_at windows k) (heard_at windows (suc k)) ≡ true

run_on_more : (first second : HeardWindow) (rest : List HeardWindow) → runs_on first second ≡ true
    → AllRunOn (second ∷ rest) → AllRunOn (first ∷ second ∷ rest)
run_on_more first second rest runs all zero below = runs
run_on_more first second rest runs all (suc k) below = all k (omega arith)

none_to_run : (windows : List HeardWindow) → length windows ≤ 1 → AllRunOn windows
none_to_run windows few k below = absurd (omega arith)

-- as many windows as tones, each running on from the one before
pub near_run_on : (level : ℕ) (tones : List Tone) (k : ℕ) (x : List ℤ) → 1 ≤ level → k < 6
    → IsNear level (wave_from (8 * k) tones) x
    → (length (heard_windows 0 x) ≡ length tones) × AllRunOn (heard_windows 0 x)
near_run_on level [] k x some below near =
    let none = no_windows x near.size in (none, none_to_run (heard_windows 0 x) (omega arith))
near_run_on level (t ∷ []) k x some below near =
    let front = near-front level (pure_window (8 * k) t) (wave_from (next_phase (8 * k) t) []) x 8
    (length-pure_window (8 * k) t) near in
    let back = near-back level (pure_window (8 * k) t) (wave_from (next_phase (8 * k) t) []) x 8
    (length-pure_window (8 * k) t) near in
    let is = first_and_rest x (front.size ∙ length-pure_window (8 * k) t) in
    let none = no_windows (drop 8 x) back.size in
    let one : length (heard_windows 0 x) ≡ 1 = ap length is ∙ omega arith in
    (one, none_to_run (heard_windows 0 x) (omega arith))
near_run_on level (t ∷ u ∷ tones) k x some below near =
    let phase : ℕ = next_phase (8 * k) t in
    let next = next_phase-sixth k t below in
    let front = near-front level (pure_window (8 * k) t) (wave_from phase (u ∷ tones)) x 8
    (length-pure_window (8 * k) t) near in
    let back = near-back level (pure_window (8 * k) t) (wave_from phase (u ∷ tones)) x 8
    (length-pure_window (8 * k) t) near in
    let front_back = near-front level (pure_window phase u) (wave_from (next_phase phase u) tones) (drop 8 x) 8
    (length-pure_window phase u) back in
    let rest = near_run_on level (u ∷ tones) next.0 (drop 8 x) some next.1
    (subst (λ p. IsNear level (wave_from p (u ∷ tones)) (drop 8 x)) next.2 back) in
    let runs = next_runs_on level k t u (take 8 x) (take 8 (drop 8 x)) some below front front_back in
    let first = first_and_rest x (front.size ∙ length-pure_window (8 * k) t) in
    let second = first_and_rest (drop 8 x) (front_back.size ∙ length-pure_window phase u) in
    let all : AllRunOn (heard_window (take 8 x) ∷ heard_window (take 8 (drop 8 x))
    ∷ heard_windows 0 (drop 8 (drop 8 x)))
    = run_on_more (heard_window (take 8 x)) (heard_window (take 8 (drop 8 x)))
    (heard_windows 0 (drop 8 (drop 8 x))) runs (subst AllRunOn second rest.1) in (
      ap length first ∙ ap suc rest.0,
      subst AllRunOn (sym (first ∙ ap (λ ws. heard_window (take 8 x) ∷ ws) second)) all,
    )
