-- Samples near a signal carry its transmissions, and a signal at a level is near its own.
use Rattle.clean_signal.proofs.Common.{◌≡◌, ℕ, ◌*◌, ◌/◌, ◌<◌, ◌≤◌, ℤ, pos, List, [], ◌∷◌, ◌++◌, length, map, get_or}
use Rattle.clean_signal.proofs.Common.{replicate, refl, ap, sym, subst, ◌∙◌, arith, append_assoc, All, AllByRecursion}
use Rattle.clean_signal.proofs.Common.{recursion_from_All, length-replicate, flat_map-cons, Tone, wave_from, wave, line}
use Rattle.clean_signal.proofs.Common.{distance, IsLevel, transmission, Transmission, samples_of, signal, signal_at}
use Rattle.clean_signal.proofs.Common.{IsTransmission, body_of, Carries, CarriesAll, Received, IsReceived, IsNearAll}
use Rattle.clean_signal.proofs.Common.{transmissions_of}
use Rattle.std.proofs.lemmas.List.{length-map, get_or-map}
use Rattle.offset_slicers.specs.Near.{IsNear}
use Rattle.offset_slicers.proofs.NearWaves.{tones_at-near}
use Rattle.afsk_modulator.specs.Level.{sample_at, at_level}
use Rattle.afsk_modulator.specs.Modulation.{IsBitPhase}
use Rattle.afsk_modulator.proofs.LevelLemmas.{sample_at-close, at_level-append, at_level-full}
use Rattle.clean_signal.specs.NearSignal.{sent_at}
use Rattle.clean_signal.proofs.WaveLemmas.{length-wave_from}

-- ---- what they carry

wave_carries : (level phase : ℕ) (tones : List Tone) (x : List ℤ) → 1 ≤ level → IsBitPhase phase
    → IsNear level (wave_from phase tones) x → Carries tones x
wave_carries level phase tones x some at near =
    let sixth : phase ≡ 8 * (phase / 8) = omega (arith, at.sixth) in
    let below : phase / 8 < 6 = omega (arith, at.below) in record {
      size = near.size ∙ length-wave_from phase tones;
      decided = tones_at-near level tones (phase / 8) x some below
          (subst (λ p. IsNear level (wave_from p tones) x) sixth near);
    }

pub near_carries : (received : List Received) (x : List ℤ) → AllByRecursion IsReceived received → IsNearAll received x
    → CarriesAll (transmissions_of received) x
near_carries [] x good near = tt
near_carries (r ∷ received) x (good, others) (gap, part, rest, whole, silence, here, following) = (
  gap,
  part,
  rest,
  whole,
  silence,
  wave_carries r.level r.phase (line (body_of r.transmission)) part good.least good.phase here,
  near_carries received rest others following,
)

-- ---- signals at a level

pub length-at_level : (level : ℕ) (w : List ℤ) → length (at_level level w) ≡ length w
unfolding at_level
length-at_level level w = length-map w (sample_at level)

-- from level 10 on the samples of a wave at a level are near it
pub at_level-near : (level : ℕ) (w : List ℤ) → 10 ≤ level → IsNear level w (at_level level w)
unfolding at_level
at_level-near level w least = record {
  size = length-at_level level w;
  close = λ i below.
      let same : distance level (get_or w i (pos 0)) (sample_at level (get_or w i (pos 0)))
      ≡ distance level (get_or w i (pos 0)) (get_or (map (sample_at level) w) i (pos 0))
      = ap (distance level (get_or w i (pos 0))) (sym (get_or-map (sample_at level) w i (pos 0) (pos 0) below)) in
      omega (arith, same, sample_at-close level (get_or w i (pos 0)));
}

part_near : (level : ℕ) (t : Transmission) → 10 ≤ level
    → IsNear level (wave (line (body_of t))) (at_level level (transmission t.frames t.opening t.closing))
unfolding transmission
part_near level t least = at_level-near level (wave (line (body_of t))) least

-- a clean transmission is near its own wave
pub clean-near : (t : Transmission) → IsNear 10000 (wave (line (body_of t))) (transmission t.frames t.opening t.closing)
unfolding transmission
clean-near t =
    subst (λ (x : List ℤ). IsNear 10000 (wave (line (body_of t))) x) (at_level-full (wave (line (body_of t))))
    (at_level-near 10000 (wave (line (body_of t))) (omega arith))

sent_at-good : (level : ℕ) (transmissions : List Transmission) → IsLevel level
    → AllByRecursion IsTransmission transmissions
    → AllByRecursion IsReceived (sent_at level transmissions)
sent_at-good level [] fits good = tt
sent_at-good level (t ∷ transmissions) fits (first, others) = (
  record {
    transmission = first;
    phase = record { below = omega arith; sixth = omega arith };
    least = omega (arith, fits.least);
    most = fits.most;
  },
  sent_at-good level transmissions fits others,
)

-- a signal at a level is near its transmissions
pub signal_at-near : (level : ℕ) (transmissions : List Transmission) → 10 ≤ level
    → IsNearAll (sent_at level transmissions) (signal_at level transmissions)
unfolding signal_at signal
signal_at-near level [] least = tt
signal_at-near level (t ∷ transmissions) least =
    let gap : List ℤ = replicate t.silence (pos 0) in
    let part : List ℤ = transmission t.frames t.opening t.closing in (
      at_level level gap,
      at_level level part,
      signal_at level transmissions,
      ap (at_level level) (flat_map-cons samples_of t transmissions ∙ append_assoc gap part (signal transmissions))
          ∙ at_level-append level gap (part ++ signal transmissions)
          ∙ ap (λ xs. at_level level gap ++ xs) (at_level-append level part (signal transmissions)),
      length-at_level level gap ∙ length-replicate t.silence (pos 0),
      part_near level t least,
      signal_at-near level transmissions least,
    )

-- what was sent, without phases and levels
pub transmissions_of-sent_at : (level : ℕ) (transmissions : List Transmission)
    → transmissions_of (sent_at level transmissions) ≡ transmissions
transmissions_of-sent_at level [] = refl
transmissions_of-sent_at level (t ∷ transmissions) = ap (λ ts. t ∷ ts) (transmissions_of-sent_at level transmissions)

-- a signal at the full level is the signal
pub signal_at-full : (transmissions : List Transmission) → signal_at 10000 transmissions ≡ signal transmissions
unfolding signal_at
signal_at-full transmissions = at_level-full (signal transmissions)

-- a signal at a level from 10 on carries its transmissions
pub signal_at-carries : (level : ℕ) (transmissions : List Transmission) → IsLevel level
    → All IsTransmission transmissions → CarriesAll transmissions (signal_at level transmissions)
signal_at-carries level transmissions fits good =
    subst (λ ts. CarriesAll ts (signal_at level transmissions)) (transmissions_of-sent_at level transmissions)
    (near_carries (sent_at level transmissions) (signal_at level transmissions)
    (sent_at-good level transmissions fits (recursion_from_All IsTransmission transmissions good))
    (signal_at-near level transmissions fits.least))
