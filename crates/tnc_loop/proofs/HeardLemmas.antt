-- What is heard of the transmissions that are drawn: as much as of clean ones, and near it.
use Rattle.tnc_loop.proofs.Common.{◌≡◌, ℕ, zero, suc, ℤ, pos, Bool, true, false, List, ◌++◌, length, map, refl, ap, sym}
use Rattle.tnc_loop.proofs.Common.{◌∙◌, arith, append_assoc, length-append, flat_map, flat_map-cons, Lcg, IsNear}
use Rattle.tnc_loop.proofs.Common.{transmission_at, Transmission, samples_of, sample_count, frames_of, Received}
use Rattle.tnc_loop.proofs.Common.{NoStray, LoopWords, loop_generator, following, words, level_drawn, noise_of}
use Rattle.tnc_loop.proofs.Common.{rough_samples, rough_received, exact_samples, with_errors, after_rough, Heard}
use Rattle.tnc_loop.proofs.Common.{heard_of, after_heard, all_heard, transmission_drawn, after_transmission}
use Rattle.tnc_loop.proofs.Common.{heard_drawn, received_drawn, drawn, samples_drawn}
use Rattle.std.proofs.Common.{replicate}
use Rattle.std.proofs.lemmas.List.{length-map, length-replicate}
use Rattle.tone_table.specs.declared.tone.Tone.TheVariants.{Mark}
use Rattle.tone_table.specs.Wave.{wave_from}
use Rattle.nrzi_bits.specs.Line.{line}
use Rattle.afsk_modulator.specs.Transmission.{transmission}
use Rattle.clean_signal.specs.GoodTransmission.{body_of}
use Rattle.clean_signal.specs.MergedFrames.{MergesTo}
use Rattle.clean_signal.specs.NearSignal.{IsNearAll}
use Rattle.clean_signal.proofs.Law.{near_law}
use Rattle.clean_signal.proofs.NearLemmas.{clean-near}
use Rattle.clean_signal.proofs.WaveLemmas.{length-wave_from}
use Rattle.nrzi_bits.proofs.LineLemmas.{length-line_from}
use Rattle.tnc_loop.proofs.DrawingLemmas.{length-words, received_good}
use Rattle.tnc_loop.proofs.RoughLemmas.{with_errors-near}

-- samples as long as the silence, and then samples near the wave
pub record IsHeard (h : Heard) : Type 0 where
  pub gap : List ℤ
  pub part : List ℤ
  pub whole : h.samples ≡ gap ++ part
  pub silence : length gap ≡ h.received.transmission.silence
  pub near : IsNear h.received.level (wave_from h.received.phase (line (body_of h.received.transmission))) part

length-noise : (count : ℕ) (g : Lcg) → length (map noise_of (words count g)) ≡ count
length-noise count g = length-map (words count g) noise_of ∙ length-words count g

is_heard : (rough : Bool) (t : Transmission) (g : Lcg) → IsHeard (heard_of rough t g)
unfolding heard_of rough_samples transmission_at
is_heard true t g = record {
  gap = map noise_of (words t.silence (following 2 g));
  part = with_errors (level_drawn g) (exact_samples (rough_received t g)) (following t.silence (following 2 g));
  whole = refl;
  silence = length-noise t.silence (following 2 g);
  near = with_errors-near (level_drawn g) _ (following t.silence (following 2 g)) (omega arith);
}
is_heard false t g = record {
  gap = replicate t.silence (pos 0);
  part = transmission t.frames t.opening t.closing;
  whole = refl;
  silence = length-replicate t.silence (pos 0);
  near = clean-near t;
}

pub transmission-heard : (rough : Bool) (t : Transmission) (g : Lcg) → (heard_of rough t g).received.transmission ≡ t
unfolding heard_of
transmission-heard true t g = refl
transmission-heard false t g = refl

-- as many samples as a clean transmission has
pub length-heard : (rough : Bool) (t : Transmission) (g : Lcg) → length (heard_of rough t g).samples ≡ sample_count t
length-heard rough t g =
    let h : Heard = heard_of rough t g in
    let is = is_heard rough t g in
    let r : Received = h.received in
    let same : sample_count r.transmission ≡ sample_count t = ap sample_count (transmission-heard rough t g) in
    omega (
      arith,
      ap length is.whole,
      length-append is.gap is.part,
      is.silence,
      is.near.size,
      length-wave_from r.phase (line (body_of r.transmission)),
      length-line_from Mark (body_of r.transmission),
    )

all_near : (rough : Bool) (count : ℕ) (g : Lcg)
    → IsNearAll (map (λ h. h.received) (all_heard rough count g)) (flat_map (λ h. h.samples) (all_heard rough count g))
all_near rough zero g = tt
all_near rough (suc count) g =
    let t : Transmission = transmission_drawn g in
    let first : Heard = heard_of rough t (after_transmission g) in
    let is = is_heard rough t (after_transmission g) in
    let others : List Heard = all_heard rough count (after_heard rough t (after_transmission g)) in
    let rest : List ℤ = flat_map (λ h. h.samples) others in (
      is.gap,
      is.part,
      rest,
      flat_map-cons (λ h. h.samples) first others ∙ ap (λ xs. xs ++ rest) is.whole ∙ append_assoc is.gap is.part rest,
      is.silence,
      is.near,
      all_near rough count (after_heard rough t (after_transmission g)),
    )

-- what is heard is near what was drawn
pub drawn_near : (words : LoopWords) → IsNearAll (received_drawn words) (samples_drawn words)
unfolding received_drawn samples_drawn heard_drawn
drawn_near words = all_near words.rough words.frames (loop_generator words.seed)

-- so it gives the frames that were drawn, if none is stray
pub drawn_law : (words : LoopWords) → NoStray (drawn words) (samples_drawn words)
    → MergesTo (frames_of (drawn words)) (samples_drawn words)
unfolding drawn
drawn_law words = near_law (received_drawn words) (samples_drawn words) (received_good words) (drawn_near words)

-- ---- each of both ways

pub samples-rough : (rough : Bool) (t : Transmission) (g : Lcg) → rough ≡ true
    → rough_samples t g ≡ (heard_of rough t g).samples
unfolding heard_of
samples-rough rough t g is = ap (λ b. (heard_of b t g).samples) (sym is)

pub samples-clean : (rough : Bool) (t : Transmission) (g : Lcg) → rough ≡ false
    → samples_of t ≡ (heard_of rough t g).samples
unfolding heard_of
samples-clean rough t g is = ap (λ b. (heard_of b t g).samples) (sym is)

pub following-rough : (rough : Bool) (t : Transmission) (g : Lcg) → rough ≡ true
    → after_rough t g ≡ after_heard rough t g
unfolding after_heard
following-rough rough t g is = ap (λ b. after_heard b t g) (sym is)

pub following-clean : (rough : Bool) (t : Transmission) (g : Lcg) → rough ≡ false → g ≡ after_heard rough t g
unfolding after_heard
following-clean rough t g is = ap (λ b. after_heard b t g) (sym is)
