use Rattle.tone_tracking.proofs.Common.{◌≡◌, ◌≤◌, ◌<◌, ◌+◌, ◌%◌, ◌+ℤ◌, ◌-ℤ◌, ◌∙◌, ◌∷◌, [], ℕ, ℤ, List, pos, set, ap, sym, subst}
use Rattle.tone_tracking.proofs.Common.{rules, to_z, of_z, to_z-of_z, w16, w32, get_or, unsigned_abs, arith, ints, FitsSigned}
use Rattle.std.proofs.Common.{◌++◌, drop}
use Rattle.tone_tracking.specs.HeldMean.{HeldMean, IsSumOf, from_oldest}
use Rattle.tone_tracking.proofs.MeanLemmas.{held_sum_small, held_sum_slid, length-from_oldest, ring_first, ring_next}
use Rattle.tone_tracking.proofs.mean_remover.MeanRemover.take.Goals as goal

-- a sum as it is passed
sum_passed : (sum : ℤ) → unsigned_abs sum ≤ 1048576 → to_z w32 (of_z w32 sum) ≡ sum
sum_passed sum small = omega (arith, ints)

-- the ring with a sample as it is passed, at a place as it is passed
ring_now : (ring : List ℤ) (oldest at : ℕ) (sample given : ℤ) → at ≡ oldest → given ≡ sample
    → from_oldest ((oldest + 1) % 32) (set ring at given) ≡ from_oldest ((oldest + 1) % 32) (set ring oldest sample)
ring_now ring oldest at sample given place same = λ i. from_oldest ((oldest + 1) % 32) (set ring (place i) (same i))

pub returns-clause-samples : goal.returns-clause-samples
returns-clause-samples c =
    let s = c.self.inside in
    ring_now s.samples s.oldest c.from-oldest.result c.args.sample _ c.from-oldest.ensures
    (to_z-of_z w16 c.args.sample c.ranges.sample)
    ∙ ring_next s.samples s.oldest c.args.sample c.self.told c.self.invariant.0
    ∙ ap (λ (held : HeldMean). drop 1 held.samples ++ c.args.sample ∷ []) c.self.view_is

pub slid_sum-self-inside-requires : goal.slid_sum-self-inside-requires
slid_sum-self-inside-requires c =
    let s = c.self.inside in
    let whole = length-from_oldest s.samples s.oldest c.self.told c.self.invariant.0 in
    let small = held_sum_small (from_oldest s.oldest s.samples) s.sum whole c.self.invariant.1 in
    subst (λ z. unsigned_abs z ≤ 1048576) (sym (sum_passed s.sum small)) small

pub invariant_of-self : goal.invariant_of-self
invariant_of-self c =
    let s = c.self.inside in
    let kept : List ℤ = from_oldest s.oldest s.samples in
    let whole = length-from_oldest s.samples s.oldest c.self.told c.self.invariant.0 in
    let small = held_sum_small kept s.sum whole c.self.invariant.1 in
    let fits : FitsSigned w16 c.args.sample = c.ranges.sample in
    let first_fits : FitsSigned w16 (get_or s.samples c.from-oldest.result (pos 0)) = search rules in
    let wide : FitsSigned w32 c.slid_sum-self-inside.result = search rules in
    let same = ring_now s.samples s.oldest c.from-oldest.result c.args.sample _ c.from-oldest.ensures
    (to_z-of_z w16 c.args.sample fits)
    ∙ ring_next s.samples s.oldest c.args.sample c.self.told c.self.invariant.0 in
    let first = to_z-of_z w16 (get_or s.samples c.from-oldest.result (pos 0)) first_fits
    ∙ ap (λ k. get_or s.samples k (pos 0)) c.from-oldest.ensures
    ∙ ring_first s.samples s.oldest c.self.told c.self.invariant.0 in
    let more = to_z-of_z w16 c.args.sample fits in
    let sum = sum_passed s.sum small in
    let value : to_z w32 (of_z w32 c.slid_sum-self-inside.result) ≡ (s.sum -ℤ get_or kept 0 (pos 0)) +ℤ c.args.sample
    = to_z-of_z w32 c.slid_sum-self-inside.result wide ∙ c.slid_sum-self-inside.ensures
    ∙ (λ i. (sum i -ℤ first i) +ℤ more i) in
    let below : (s.oldest + 1) % 32 < 32 = omega arith in (
      below,
      subst (λ l. IsSumOf l (to_z w32 (of_z w32 c.slid_sum-self-inside.result))) (sym same)
          (held_sum_slid kept s.sum whole c.self.invariant.1 c.args.sample
          (to_z w32 (of_z w32 c.slid_sum-self-inside.result)) (omega (arith, ints)) value),
    )
