use Rattle.hf_sender.proofs.Common.{◌≡◌, ℕ, ◌≤◌, ℤ, pos, ◌*ℤ◌, unsigned_abs, FitsSigned, to_z, of_z, refl, ap, ◌∙◌, sym}
use Rattle.hf_sender.proofs.Common.{subst, arith, ints, to_z-of_z, fits_signed_mul, w16, sample_at}
use Rattle.hf_sender.proofs.Common.{unsigned_abs-sample_at}
use Rattle.std.specs.Prelude.{int_div}
use Rattle.std.proofs.lemmas.Int.{quot_is}
use mir.Syntax.{w32}
use Rattle.hf_sender.proofs.modulator.at_level.Goals as goal

-- the quotient as the code computes it
abbrev computed : ℤ → ℤ → ℤ → ℤ
computed level sample full =
    to_z w16 (of_z w16
    (to_z w32 (of_z w32 (int_div (to_z w32 (of_z w32 (to_z w32 (of_z w32 level) *ℤ to_z w32 (of_z w32 sample))))
    (to_z w32 (of_z w32 full))))))

module _ (level : ℕ) (sample : ℤ) (most : level ≤ 32767) (small : unsigned_abs sample ≤ 10000) where
  computed_is : computed (pos level) sample (pos 10000) ≡ sample_at level sample
  unfolding sample_at
  computed_is =
      let product : ℤ = pos level *ℤ sample in
      let level_fits : FitsSigned w32 (pos level) = search (arith, ints) in
      let sample_fits : FitsSigned w32 sample = search (arith, ints) in
      let full_fits : FitsSigned w32 (pos 10000) = search (arith, ints) in
      let product_fits : FitsSigned w32 product = fits_signed_mul w32 (pos level) sample 32767 10000 most small
      (omega arith) in
      let bound : unsigned_abs (sample_at level sample) ≤ level = unsigned_abs-sample_at level sample small in
      let quotient_fits : FitsSigned w32 (int_div product (pos 10000)) = search (arith, ints) in
      let result_fits : FitsSigned w16 (int_div product (pos 10000)) = search (arith, ints) in
      (λ i. to_z w16
      (of_z w16 (to_z w32
      (of_z w32 (int_div
      (to_z w32 (of_z w32 (to_z-of_z w32 (pos level) level_fits i *ℤ to_z-of_z w32 sample sample_fits i)))
      (to_z w32 (of_z w32 (pos 10000))))))))
      ∙ ap (λ z. to_z w16 (of_z w16 z)) (quot_is w32 product (pos 10000) product_fits full_fits quotient_fits)
      ∙ to_z-of_z w16 (int_div product (pos 10000)) result_fits

  pub computed_from : (a b d : ℤ) → a ≡ pos level → b ≡ sample → d ≡ pos 10000 → computed a b d ≡ sample_at level sample
  computed_from a b d is_a is_b is_d = (λ i. computed (is_a i) (is_b i) (is_d i)) ∙ computed_is

pub returns-clause-value : goal.returns-clause-value
returns-clause-value c =
    computed_from c.args.level c.args.sample c.requires.level c.requires.sample c.from.result c.from-2.result
    (pos 10000)
    c.from.ensures (c.from-2.ensures ∙ to_z-of_z w16 c.args.sample c.ranges.sample) refl

pub returns-clause-bound : goal.returns-clause-bound
returns-clause-bound c =
    subst (λ (z : ℤ). unsigned_abs z ≤ c.args.level) (sym (returns-clause-value c))
    (unsigned_abs-sample_at c.args.level c.args.sample c.requires.sample)
