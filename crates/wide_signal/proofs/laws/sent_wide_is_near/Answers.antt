use Rattle.wide_signal.proofs.Common.{◌≡◌, ℕ, ◌*◌, ◌<◌, ◌≤◌, ℤ, pos, length, map, get_or, ap, sym, arith, distance, fine_phase}
use Rattle.wide_signal.proofs.Common.{fine_sample, ◌+◌}
use Rattle.std.proofs.lemmas.List.FromFn.{get_or-map-range_with_len}
use Rattle.afsk_modulator.specs.Level.{sample_at}
use Rattle.afsk_modulator.proofs.LevelLemmas.{sample_at-close}
use Rattle.wide_signal.specs.FineWave.{fine_wave}
use Rattle.wide_signal.proofs.laws.sent_wide_is_near.Goals as goal

pub returns : goal.returns
returns c = λ level start tones least n below.
    let wave : ℤ = fine_sample (fine_phase start tones n) in
    let same : distance level wave (get_or (fine_wave level start tones) (0 + n) (pos 0)) ≡ distance level wave (sample_at level wave)
    = ap (distance level wave)
    (get_or-map-range_with_len (λ k. sample_at level (fine_sample (fine_phase start tones k))) 0 (40 * length tones) (0 + n) n
    (pos 0) (omega arith) (omega arith)) in
    omega (arith, same, sample_at-close level wave)
