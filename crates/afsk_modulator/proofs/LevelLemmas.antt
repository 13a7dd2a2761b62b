-- Samples at a level.
use Rattle.std.proofs.Common.{◌≡◌, ℕ, zero, suc, ◌*◌, ◌<◌, ◌≤◌, ℤ, pos, ◌*ℤ◌, ◌+ℤ◌, ◌-ℤ◌, List, [], ◌∷◌, ◌++◌, map}
use Rattle.std.proofs.Common.{replicate, unsigned_abs, refl, ap, ◌∙◌, arith}
use Rattle.std.specs.Prelude.{int_rem}
use Rattle.std.proofs.lemmas.Int.{ints, quot-rem, rem_below, unsigned_abs-mul}
use Rattle.std.proofs.lemmas.List.{map-append}
use Rattle.std.proofs.Math.Nat.{mul-le-mul_left}
use Rattle.tone_table.specs.Wave.{wave}
use Rattle.nrzi_bits.specs.Line.{line}
use Rattle.hdlc_framer.specs.Body.{body}
use Rattle.afsk_modulator.specs.Level.{sample_at, at_level}
use Rattle.afsk_modulator.specs.Transmission.{transmission, transmission_at}

-- the quotient and the remainder of the level times a sample
parts : (level : ℕ) (sample : ℤ)
    → (rest : ℤ) × (sample_at level sample *ℤ pos 10000 +ℤ rest ≡ pos level *ℤ sample) × (unsigned_abs rest < 10000)
unfolding sample_at
parts level sample = (
  int_rem (pos level *ℤ sample) (pos 10000),
  quot-rem (pos level *ℤ sample) (pos 10000),
  rem_below (pos level *ℤ sample) (pos 10000) (omega arith),
)

-- a sample at the full level is the sample
sample_at-full : (sample : ℤ) → sample_at 10000 sample ≡ sample
sample_at-full sample = let p = parts 10000 sample in omega (arith, ints, p.1, p.2)

pub at_level-full : (samples : List ℤ) → at_level 10000 samples ≡ samples
unfolding at_level
at_level-full [] = refl
at_level-full (sample ∷ samples) =
    ap (λ z. z ∷ map (sample_at 10000) samples) (sample_at-full sample) ∙ ap (λ zs. sample ∷ zs) (at_level-full samples)

-- a transmission from phase 0 on at the full level
pub transmission_at-full : (frames : List (List ℕ)) (opening closing : ℕ)
    → transmission_at 0 10000 frames opening closing ≡ transmission frames opening closing
unfolding transmission transmission_at
transmission_at-full frames opening closing = at_level-full (wave (line (body frames opening closing)))

pub at_level-append : (level : ℕ) (xs ys : List ℤ) → at_level level (xs ++ ys) ≡ at_level level xs ++ at_level level ys
unfolding at_level
at_level-append level xs ys = map-append (sample_at level) xs ys

-- no sample is louder than the level
pub unsigned_abs-sample_at : (level : ℕ) (sample : ℤ) → unsigned_abs sample ≤ 10000
    → unsigned_abs (sample_at level sample) ≤ level
unsigned_abs-sample_at level sample small =
    let p = parts level sample in
    let most : level * unsigned_abs sample ≤ level * 10000 = mul-le-mul_left level small in
    omega (arith, ints, p.1, p.2, unsigned_abs-mul (pos level) sample)

-- rounding changes a sample by less than one: here ten thousand times as much
pub sample_at-close : (level : ℕ) (sample : ℤ)
    → unsigned_abs (pos 10000 *ℤ sample_at level sample -ℤ pos level *ℤ sample) < 10000
sample_at-close level sample = let p = parts level sample in omega (arith, ints, p.1, p.2)

-- silence is silence at each level
pub at_level-silence : (level count : ℕ) → at_level level (replicate count (pos 0)) ≡ replicate count (pos 0)
unfolding at_level
at_level-silence level zero = refl
at_level-silence level (suc count) =
    let p = parts level (pos 0) in
    let none : sample_at level (pos 0) ≡ pos 0 = omega (arith, ints, p.1, p.2) in
    (λ i. none i ∷ at_level-silence level count i)
