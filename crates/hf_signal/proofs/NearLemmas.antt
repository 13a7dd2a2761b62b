-- Samples near a signal carry its transmissions, and what is sent at a level is near its wave.
use Rattle.std.proofs.Common.{◌≡◌, ℕ, ◌*◌, ◌/◌, ◌<◌, ◌≤◌, ℤ, pos, List, [], ◌∷◌, length, replicate, refl, subst, ◌∙◌}
use Rattle.std.proofs.Common.{arith, append_assoc, length-append}
use Rattle.std.specs.List.{AllByRecursion}
use Rattle.std.proofs.lemmas.List.{length-replicate}
use Rattle.std.proofs.lemmas.List.Concat.{flat_map-cons}
use Rattle.tone_table.specs.declared.tone.Tone.{Tone}
use Rattle.nrzi_bits.specs.Line.{line}
use Rattle.hdlc_framer.specs.Body.{body}
use Rattle.offset_slicers.specs.Near.{IsNear}
use Rattle.afsk_modulator.specs.Modulation.{IsLevel}
use Rattle.afsk_modulator.specs.Signal.{Transmission}
use Rattle.clean_signal.specs.GoodTransmission.{IsTransmission, body_of}
use Rattle.clean_signal.specs.NearSignal.{Received, transmissions_of, sent_at}
use Rattle.clean_signal.proofs.NearLemmas.{at_level-near}
use Rattle.hf_sender.specs.Tones.{next_phase}
use Rattle.hf_sender.specs.Wave.{pure_window, wave_from, wave, IsBitPhase}
use Rattle.hf_sender.specs.Transmission.{hf_transmission}
use Rattle.hf_signal.specs.Carried.{Carries, CarriesAll}
use Rattle.hf_modem.specs.Signal.{hf_samples_of, hf_signal}
use Rattle.hf_signal.specs.NearSignal.{IsReceived, IsNearAll}
use Rattle.hf_signal.proofs.NearWindows.{length-pure_window}
use Rattle.hf_signal.proofs.NearWaves.{tones_at-near}

length-wave_from : (phase : ℕ) (tones : List Tone) → length (wave_from phase tones) ≡ 32 * length tones
length-wave_from phase [] = refl
length-wave_from phase (tone ∷ tones) =
    omega (
      arith,
      length-append (pure_window phase tone) (wave_from (next_phase phase tone) tones),
      length-pure_window phase tone,
      length-wave_from (next_phase phase tone) tones,
    )

wave_carries : (level phase : ℕ) (tones : List Tone) (x : List ℤ) → 1 ≤ level → IsBitPhase phase
    → IsNear level (wave_from phase tones) x → Carries tones x
wave_carries level phase tones x some at near =
    let third : phase ≡ 16 * (phase / 16) = omega (arith, at.third) in
    let below : phase / 16 < 3 = omega (arith, at.below) in record {
      size = near.size ∙ length-wave_from phase tones;
      decided = tones_at-near level tones (phase / 16) x some below
          (subst (λ p. IsNear level (wave_from p tones) x) third near);
    }

pub near_carries : (received : List Received) (x : List ℤ) → AllByRecursion IsReceived received → IsNearAll received x
    → CarriesAll (transmissions_of received) x
near_carries [] x good near = tt
near_carries (r ∷ received) x (good, others) (gap, part, rest, whole, silence, here, after) = (
  gap,
  part,
  rest,
  whole,
  silence,
  wave_carries r.level r.phase (line (body_of r.transmission)) part good.least good.phase here,
  near_carries received rest others after,
)

-- what is sent at a level from 10 on is near its wave
pub sent_near : (level : ℕ) (frames : List (List ℕ)) (opening closing : ℕ) → 10 ≤ level
    → IsNear level (wave (line (body frames opening closing))) (hf_transmission level frames opening closing)
unfolding hf_transmission
sent_near level frames opening closing least = at_level-near level (wave (line (body frames opening closing))) least

-- and so is a signal
pub signal_near : (level : ℕ) (transmissions : List Transmission) → 10 ≤ level
    → IsNearAll (sent_at level transmissions) (hf_signal level transmissions)
unfolding hf_signal
signal_near level [] least = tt
signal_near level (t ∷ transmissions) least =
    let gap : List ℤ = replicate t.silence (pos 0) in
    let part : List ℤ = hf_transmission level t.frames t.opening t.closing in (
      gap,
      part,
      hf_signal level transmissions,
      flat_map-cons (hf_samples_of level) t transmissions ∙ append_assoc gap part (hf_signal level transmissions),
      length-replicate t.silence (pos 0),
      sent_near level t.frames t.opening t.closing least,
      signal_near level transmissions least,
    )

-- as it is received: from phase 0 on, at the level of all
pub sent_at-good : (level : ℕ) (transmissions : List Transmission) → IsLevel level
    → AllByRecursion IsTransmission transmissions
    → AllByRecursion IsReceived (sent_at level transmissions)
sent_at-good level [] fits good = tt
sent_at-good level (t ∷ transmissions) fits (first, others) = (
  record {
    transmission = first;
    phase = record { below = omega arith; third = omega arith };
    least = omega (arith, fits.least);
    most = fits.most;
  },
  sent_at-good level transmissions fits others,
)
