-- Rough samples: an error more at a time, how many, and how near they are.
use Rattle.tnc_loop.proofs.Common.{◌≡◌, ℕ, zero, suc, ◌+◌, ◌-◌, ◌*◌, ◌%◌, ◌<◌, ◌≤◌, ℤ, pos, List, [], ◌∷◌, ◌++◌, length}
use Rattle.tnc_loop.proofs.Common.{map, get_or, drop, unsigned_abs, refl, ap, sym, ◌∙◌, arith, append_assoc, append-nil}
use Rattle.tnc_loop.proofs.Common.{mod-lt, ints, drop_more, drop_all, Lcg, IsNear, transmission_at, Transmission}
use Rattle.tnc_loop.proofs.Common.{following, word_at, words, level_drawn, noise_of, with_errors, rough_received}
use Rattle.tnc_loop.proofs.Common.{exact_samples, rough_samples, after_rough}
use Rattle.std.proofs.Common.{◌+ℤ◌}
use Rattle.std.proofs.lemmas.Int.{unsigned_abs-mul}
use Rattle.offset_slicers.specs.Near.{distance}
use Rattle.offset_slicers.proofs.IntegerLemmas.{mul-add_right}
use Rattle.afsk_modulator.specs.Level.{sample_at, at_level}
use Rattle.afsk_modulator.proofs.LevelLemmas.{sample_at-close}
use Rattle.clean_signal.proofs.NearLemmas.{length-at_level}
use Rattle.tnc_loop.specs.Rough.{phase_drawn, most_error, error_of}

-- ---- one error more

-- these have errors already, and what is left completes them
pub record HasErrors (level : ℕ) (exact : List ℤ) (initial now : Lcg) (place : ℕ) (noisy : List ℤ) : Type 0 where
  pub parts : noisy ++ with_errors level (drop place exact) now ≡ with_errors level exact initial
  pub following : following (length exact - place) now ≡ following (length exact) initial

pub errors_none : (level : ℕ) (exact : List ℤ) (initial : Lcg) (noisy : List ℤ) → noisy ≡ []
    → HasErrors level exact initial initial 0 noisy
errors_none level exact initial noisy none =
    let all : length exact - 0 ≡ length exact = omega arith in
    record {
      parts = ap (λ xs. xs ++ with_errors level exact initial) none;
      following = ap (λ n. following n initial) all;
    }

pub errors_more : (level : ℕ) (exact : List ℤ) (initial was now : Lcg) (place : ℕ) (sample error : ℤ)
    (noisy more : List ℤ)
    → HasErrors level exact initial was place noisy → place < length exact → sample ≡ get_or exact place (pos 0)
    → error ≡ error_of level (word_at 0 was) → now ≡ following 1 was → more ≡ noisy ++ (sample +ℤ error) ∷ []
    → HasErrors level exact initial now (place + 1) more
errors_more level exact initial was now place sample error noisy more h below is drawn next what =
    let left : ℕ = length exact - (place + 1) in
    let fewer : length exact - place ≡ suc left = omega arith in
    let rest : List ℤ = drop (place + 1) exact in
    record {
      parts = ap (λ xs. xs ++ with_errors level rest now) what
          ∙ append_assoc noisy ((sample +ℤ error) ∷ []) (with_errors level rest now)
          ∙ (λ i. noisy ++ ((is i +ℤ drawn i) ∷ with_errors level rest (next i)))
          ∙ ap (λ xs. noisy ++ with_errors level xs was) (sym (drop_more exact place (pos 0) below))
          ∙ h.parts;
      following = ap (following left) next ∙ ap (λ n. following n was) (sym fewer) ∙ h.following;
    }

pub errors_all : (level : ℕ) (exact : List ℤ) (initial now : Lcg) (place : ℕ) (noisy : List ℤ)
    → HasErrors level exact initial now place noisy → length exact ≤ place
    → (noisy ≡ with_errors level exact initial) × (now ≡ following (length exact) initial)
errors_all level exact initial now place noisy h past =
    let none : length exact - place ≡ 0 = omega arith in (
      sym (append-nil noisy) ∙ ap (λ xs. noisy ++ with_errors level xs now) (sym (drop_all place exact past)) ∙ h.parts,
      ap (λ n. following n now) (sym none) ∙ h.following,
    )

-- ---- how many, and how near

pub length-with_errors : (level : ℕ) (samples : List ℤ) (g : Lcg)
    → length (with_errors level samples g) ≡ length samples
length-with_errors level [] g = refl
length-with_errors level (sample ∷ samples) g = ap suc (length-with_errors level samples (following 1 g))

small_error : (level word : ℕ) → unsigned_abs (error_of level word) ≤ most_error level
small_error level word =
    let below : word % (2 * most_error level + 1) < 2 * most_error level + 1 = mod-lt word (omega arith) in
    omega (arith, ints)

-- a sample of a wave at a level, with an error, is within a tenth of the level
one-near : (level word : ℕ) (sample : ℤ) → 10 ≤ level
    → distance level sample (sample_at level sample +ℤ error_of level word) ≤ 1000 * level
one-near level word sample least =
    let error : ℤ = error_of level word in
    let parts = mul-add_right (pos 10000) (sample_at level sample) error in
    let size = unsigned_abs-mul (pos 10000) error in
    omega (arith, ints, parts, size, small_error level word, sample_at-close level sample)

with_errors-close : (level : ℕ) (wave : List ℤ) (g : Lcg) (i : ℕ) → 10 ≤ level → i < length wave
    → distance level (get_or wave i (pos 0)) (get_or (with_errors level (at_level level wave) g) i (pos 0))
    ≤ 1000 * level
unfolding at_level
with_errors-close level [] g i least below = absurd (omega arith)
with_errors-close level (sample ∷ wave) g zero least below = one-near level (word_at 0 g) sample least
with_errors-close level (sample ∷ wave) g (suc i) least below =
    with_errors-close level wave (following 1 g) i least (omega arith)

pub with_errors-near : (level : ℕ) (wave : List ℤ) (g : Lcg) → 10 ≤ level
    → IsNear level wave (with_errors level (at_level level wave) g)
with_errors-near level wave g least = record {
  size = length-with_errors level (at_level level wave) g ∙ length-at_level level wave;
  close = λ i below. with_errors-close level wave g i least below;
}

-- ---- all of them

-- noise and errors, as they are drawn one after another, are the rough samples
module _ (t : Transmission) (g g1 g2 g3 : Lcg) (phase level : ℕ) (exact : List ℤ) (first : g1 ≡ following 1 g)
    (second : g2 ≡ following 1 g1)
    (third : g3 ≡ following t.silence g2) (is_phase : phase ≡ phase_drawn g) (is_level : level ≡ 10 + word_at 0 g1 % 29000)
    (is_exact : exact ≡ transmission_at phase level t.frames t.opening t.closing) where
  at2 : g2 ≡ following 2 g
  at2 = second ∙ ap (following 1) first

  at3 : g3 ≡ following t.silence (following 2 g)
  at3 = third ∙ ap (following t.silence) at2

  level_is : level ≡ level_drawn g
  level_is = is_level ∙ ap (λ h. 10 + word_at 0 h % 29000) first

  exact_is : exact ≡ exact_samples (rough_received t g)
  exact_is = is_exact ∙ (λ i. transmission_at (is_phase i) (level_is i) t.frames t.opening t.closing)

  pub rough_is : (noise noisy : List ℤ) → noise ≡ map noise_of (words t.silence g2) → noisy ≡ with_errors level exact g3
      → noise ++ noisy ≡ rough_samples t g
  unfolding rough_samples
  rough_is noise noisy is_noise is_noisy = (λ i. before i ++ after i)
    where
      before : noise ≡ map noise_of (words t.silence (following 2 g))
      before = is_noise ∙ ap (λ h. map noise_of (words t.silence h)) at2

      after : noisy ≡ with_errors (level_drawn g) (exact_samples (rough_received t g)) (following t.silence (following 2 g))
      after = is_noisy ∙ (λ i. with_errors (level_is i) (exact_is i) (at3 i))

  pub after_rough_is : (now : Lcg) → now ≡ following (length exact) g3 → now ≡ after_rough t g
  unfolding after_rough
  after_rough_is now is = is ∙ (λ i. following (length (exact_is i)) (at3 i))
