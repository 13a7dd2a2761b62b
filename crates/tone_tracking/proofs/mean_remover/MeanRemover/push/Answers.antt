use Rattle.tone_tracking.proofs.Common.{◌≡◌, ◌≤◌, ◌∙◌, ◌∷◌, [], ◌-ℤ◌, ◌*ℤ◌, ℤ, pos, List, ap, sym, subst, arith, ints, unsigned_abs}
use Rattle.tone_tracking.proofs.Common.{rules, get_or, to_z, of_z, FitsSigned, to_z-of_z, w16, w32, sum_below}
use Rattle.std.proofs.Common.{◌++◌, drop}
use Rattle.std.proofs.lemmas.List.{length_push}
use Rattle.std.specs.Int.{int_div_euclid}
use Rattle.tone_tracking.specs.HeldMean.{HeldMean, StandsFor, from_oldest, last_samples}
use Rattle.tone_tracking.proofs.MeanLemmas.{held_sum_small, last_samples-push, length-from_oldest, ring_at}
use Rattle.tone_tracking.proofs.MeanLemmas.{without_mean-more}
use Rattle.tone_tracking.proofs.mean_remover.MeanRemover.push.Goals as goal

-- a sum as it is passed
sum_passed : (sum : ℤ) → unsigned_abs sum ≤ 1048576 → to_z w32 (of_z w32 sum) ≡ sum
sum_passed sum small = omega (arith, ints)

-- the last samples, with one more as it is passed
moved : (was now : HeldMean) (x : List ℤ) (sample given : ℤ) → now.samples ≡ drop 1 was.samples ++ given ∷ []
    → given ≡ sample → StandsFor was x → now.samples ≡ last_samples (x ++ sample ∷ [])
moved was now x sample given is same h =
    is ∙ (λ i. drop 1 (h.samples i) ++ same i ∷ []) ∙ sym (last_samples-push x sample)

pub returns-then-self-gt0-clause-stands_for : goal.returns-then-self-gt0-clause-stands_for
returns-then-self-gt0-clause-stands_for c = λ x h.
    let some = c.if-self-gt0.true in
    let same : c.self.inside.left ≡ c.take.new.self.left = ap (λ (held : HeldMean). held.left) c.self.view_is in
    let size = length_push x c.args.sample in
    let left = h.left in
    let kept = c.take.ensures.left in
    record {
      samples = ap (λ (held : HeldMean). held.samples) c.self.view_is
          ∙ moved c.args.self.now c.take.new.self x c.args.sample (to_z w16 (of_z w16 c.args.sample))
          c.take.ensures.samples (to_z-of_z w16 c.args.sample c.ranges.sample) h;
      left = omega arith;
    }

pub returns-clause-stands_for : goal.returns-clause-stands_for
returns-clause-stands_for c = λ x h.
    let none = c.if-self-gt0.false in
    let same : c.self.inside.left ≡ c.take.new.self.left = ap (λ (held : HeldMean). held.left) c.self.view_is in
    let size = length_push x c.args.sample in
    let left = h.left in
    let kept = c.take.ensures.left in
    record {
      samples = moved c.args.self.now c.take.new.self x c.args.sample (to_z w16 (of_z w16 c.args.sample))
          c.take.ensures.samples (to_z-of_z w16 c.args.sample c.ranges.sample) h;
      left = omega arith;
    }

pub returns-clause-settled : goal.returns-clause-settled
returns-clause-settled c = λ x h.
    let s = c.self.inside in
    let ring : List ℤ = from_oldest s.oldest s.samples in
    let none = c.if-self-gt0.false in
    let same : s.left ≡ c.take.new.self.left = ap (λ (held : HeldMean). held.left) c.self.view_is in
    let left = h.left in
    let kept = c.take.ensures.left in
    let w : ring ≡ last_samples (x ++ c.args.sample ∷ [])
    = ap (λ (held : HeldMean). held.samples) c.self.view_is
    ∙ moved c.args.self.now c.take.new.self x c.args.sample (to_z w16 (of_z w16 c.args.sample))
    c.take.ensures.samples (to_z-of_z w16 c.args.sample c.ranges.sample) h in
    let whole = length-from_oldest s.samples s.oldest c.self.told c.self.invariant.0 in
    let middle_fits : FitsSigned w16 (get_or s.samples c.from-middle.result (pos 0)) = search rules in
    let small = held_sum_small ring s.sum whole c.self.invariant.1 in
    let fits : FitsSigned w32 c.less_mean.result = search rules in
    let middle = to_z-of_z w16 (get_or s.samples c.from-middle.result (pos 0)) middle_fits
    ∙ ap (λ k. get_or s.samples k (pos 0)) c.from-middle.ensures
    ∙ ring_at s.samples s.oldest 16 c.self.told c.self.invariant.0 (omega arith)
    ∙ ap (λ l. get_or l 16 (pos 0)) w in
    let sum = sum_passed s.sum small ∙ c.self.invariant.1.sum_is
    ∙ ap (λ l. sum_below (λ j. get_or l j (pos 0)) 32) w in
    without_mean-more x c.args.sample (to_z w32 (of_z w32 c.less_mean.result)) (omega arith)
    (to_z-of_z w32 c.less_mean.result fits ∙ c.less_mean.ensures.value
    ∙ (λ i. pos 4 *ℤ middle i -ℤ int_div_euclid (sum i) (pos 8)))

pub less_mean-requires : goal.less_mean-requires
less_mean-requires c =
    let s = c.self.inside in
    let whole = length-from_oldest s.samples s.oldest c.self.told c.self.invariant.0 in
    let small = held_sum_small (from_oldest s.oldest s.samples) s.sum whole c.self.invariant.1 in
    subst (λ z. unsigned_abs z ≤ 1048576) (sym (sum_passed s.sum small)) small
