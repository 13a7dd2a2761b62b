-- Samples near a wave have tones: the evidence rises with each window that runs on.
use Rattle.std.proofs.Common.{◌≡◌, ℕ, zero, suc, ◌+◌, ◌-◌, ◌*◌, ◌/◌, ◌%◌, ◌<◌, ◌≤◌, ℤ, List, ◌++◌, length, min, true}
use Rattle.std.proofs.Common.{ap, sym, subst, ◌∙◌, arith, length-append}
use Rattle.std.proofs.lemmas.Bool.{cond-true, cond_both}
use Rattle.std.proofs.lemmas.List.{get_or-append-add}
use Rattle.tone_table.specs.declared.tone.Tone.{Tone}
use Rattle.tone_table.specs.declared.tone.Tone.TheVariants.{Mark, Space}
use Rattle.tone_table.specs.Wave.{wave_from}
use Rattle.offset_slicers.specs.Held.{offset_from}
use Rattle.offset_slicers.specs.Near.{IsNear}
use Rattle.tone_carrier.specs.declared.heard_window.HeardWindow.{HeardWindow}
use Rattle.tone_carrier.specs.RunsOn.{runs_on}
use Rattle.tone_carrier.specs.Evidence.{evidence, gain, heard_at, silent}
use Rattle.tone_carrier.specs.Tones.{heard_windows, ShowsCarrier, HasTones}
use Rattle.tone_carrier.proofs.WindowLemmas.{heard_windows-aligned}
use Rattle.tone_carrier.proofs.NearRuns.{AllRunOn, near_run_on}

least_gain : (t u : Tone) → 1 ≤ gain t u
least_gain Mark Mark = omega arith
least_gain Mark Space = omega arith
least_gain Space Mark = omega arith
least_gain Space Space = omega arith

-- it rises with each window that runs on
rises : (before windows : List HeardWindow) → AllRunOn windows → (k : ℕ) → k < length windows
    → min 24 k ≤ evidence (before ++ windows) (length before + k)
unfolding evidence
rises before windows all zero below = omega arith
rises before windows all (suc k) below =
    let both : List HeardWindow = before ++ windows in
    let place : ℕ = length before + k in
    let next : length before + suc k ≡ suc place = omega arith in
    let first : heard_at both place ≡ heard_at windows k = get_or-append-add before windows k silent in
    let second : heard_at both (suc place) ≡ heard_at windows (suc k)
    = ap (heard_at both) (sym next) ∙ get_or-append-add before windows (suc k) silent in
    let runs : runs_on (heard_at both place) (heard_at both (suc place)) ≡ true
    = (λ i. runs_on (first i) (second i)) ∙ all k below in
    let more = cond-true (runs_on (heard_at both place) (heard_at both (suc place)))
    (min 24 (evidence both place + gain (heard_at both place).tone (heard_at both (suc place)).tone))
    (evidence both place - 5) runs in
    let some = least_gain (heard_at both place).tone (heard_at both (suc place)).tone in
    let there = rises before windows all k (omega arith) in
    let same : evidence both (length before + suc k) ≡ evidence both (suc place) = ap (evidence both) next in
    let is : evidence both (suc place)
    ≡ min 24 (evidence both place + gain (heard_at both place).tone (heard_at both (suc place)).tone) = more in
    omega arith

most : (windows : List HeardWindow) (k : ℕ) → evidence windows k ≤ 24
unfolding evidence
most windows zero = omega arith
most windows (suc k) =
    let before = most windows k in
    let v = heard_at windows k in
    let w = heard_at windows (suc k) in
    cond_both (runs_on v w) (min 24 (evidence windows k + gain v.tone w.tone)) (evidence windows k - 5) (λ n. n ≤ 24)
    (λ _. omega arith) (λ _. omega arith)

-- 25 windows that run on, after any others, show a carrier
shows : (before windows : List HeardWindow) → AllRunOn windows → 25 ≤ length windows
    → ShowsCarrier (before ++ windows)
shows before windows all enough =
    let last : ℕ = length before + (length windows - 1) in
    let size = length-append before windows in
    let least = rises before windows all (length windows - 1) (omega arith) in
    let full : evidence (before ++ windows) last ≡ 24 = (let above = most (before ++ windows) last in omega arith) in
    record {
      found = last;
      within = omega arith;
      full = full;
      kept = λ k from below. (last, omega arith, from, omega arith, omega arith);
    }

-- ---- samples near a wave, after any others

place_of : (begin n : ℕ) → (begin + n) % 2 ≡ 0
    → ((begin + n) % 8 / 2 < 4) × (n ≡ offset_from (2 * ((begin + n) % 8 / 2)) begin + 8 * (n / 8))
place_of begin n even = (omega arith, omega arith)

pub near_wave_has_tones : (level k begin : ℕ) (tones : List Tone) (before x : List ℤ) → 1 ≤ level → k < 6
    → 25 ≤ length tones → (begin + length before) % 2 ≡ 0 → IsNear level (wave_from (8 * k) tones) x
    → HasTones begin (before ++ x)
near_wave_has_tones level k begin tones before x some below enough even near =
    let half : ℕ = (begin + length before) % 8 / 2 in
    let place = place_of begin (length before) even in
    let offset : ℕ = offset_from (2 * half) begin in
    let run = near_run_on level tones k x some below near in
    let count = run.0 in
    record {
      half = half;
      small = place.0;
      shown = subst ShowsCarrier (sym (heard_windows-aligned offset (length before / 8) before x place.1))
          (shows (heard_windows offset before) (heard_windows 0 x) run.1 (omega arith));
    }
