use Rattle.reed_solomon.proofs.Common.{◌≡◌, ◌≢◌, ℕ, ◌+◌, ◌-◌, ◌*◌, ◌/◌, ◌<◌, ◌≤◌, true, false, eqb, List, ◌∷◌, length, get_or}
use Rattle.reed_solomon.proofs.Common.{take, drop, ap, sym, subst, ◌∙◌, inl, inr, arith, cases_Bool, count_true, dot}
use Rattle.reed_solomon.proofs.Common.{values_down, value_at, scaled, weight_outside}
use Rattle.reed_solomon.proofs.DistanceLemmas.{octets_of_all}
use Rattle.reed_solomon.proofs.ErrorLemmas.{scaled_errors_at_roots}
use Rattle.reed_solomon.proofs.RootLemmas.{few_kernel_roots}
use Rattle.reed_solomon.proofs.ValueLemmas.{Octets}
use Rattle.reed_solomon.proofs.places.wrong_places.Goals as goal

-- the polynomial that is 0 at the unknown places
factors_is : (c : goal.After-united) → c.as_slice-2.result.now ≡ 1 ∷ c.with_roots-rest.result.items
factors_is c = c.as_slice-2.ensures.value ∙ c.with_highest-factors.ensures ∙ ap (λ xs. 1 ∷ xs) c.as_slice.ensures.value

-- half as many syndromes of the scaled word as there are, rounded down, can be wrong
half_is : (c : goal.After-united) → length c.as_slice-3.result.now
    ≡ 2 * ((length c.args.syndromes.now - count_true c.args.unknown.now) / 2)
half_is c =
    let size : length c.as_slice-2.result.now ≡ count_true c.args.unknown.now + 1 =
    omega (arith, ap length (factors_is c), c.with_roots-rest.ensures.count) in
    let rest : length c.args.syndromes.now + 1 - length c.as_slice-2.result.now
    ≡ length c.args.syndromes.now - count_true c.args.unknown.now = omega arith in
    ap length c.as_slice-3.ensures.value ∙ c.scaled_syndromes-left.ensures.count ∙ ap (λ n. 2 * (n / 2)) rest

most_is : (c : goal.After-united) → c.len.result / 2 ≡ length c.as_slice-3.result.now / 2
most_is c = ap (λ n. n / 2) (c.len.ensures.value ∙ sym (ap length c.as_slice-3.ensures.value))

coefficients_are_octets : (c : goal.After-united)
    → Octets (take (length c.as_slice-3.result.now / 2 + 1) c.kernel-coefficients.result)
coefficients_are_octets c =
    let k = c.kernel-coefficients.result in
    let P : ℕ → Type 0 = λ m. Octets (take (m + 1) k) in
    subst P (most_is c) (octets_of_all (take (c.len.result / 2 + 1) k) c.roots-roots.ensures.octets)

are_roots : (c : goal.After-united) → (p : ℕ) → p < 255 → get_or c.roots-roots.result p false
    ≡ eqb (value_at p (take (length c.as_slice-3.result.now / 2 + 1) c.kernel-coefficients.result)) 0
are_roots c = λ p below.
    c.roots-roots.ensures.roots p below
    ∙ ap (λ m. eqb (value_at p (take (m + 1) c.kernel-coefficients.result)) 0) (most_is c)

pub returns-clause-few : goal.returns-clause-few
returns-clause-few c =
    let most = length c.as_slice-3.result.now / 2 in
    let one = c.kernel-coefficients.ensures.some in
    let half = half_is c in
    let few = few_kernel_roots most one.0 c.kernel-coefficients.result c.roots-roots.result
    c.roots-roots.ensures.size c.kernel-coefficients.ensures.size (omega (arith, half, c.requires.most))
    (coefficients_are_octets c) (are_roots c) one.1 one.2 in
    omega (arith, few, half, c.united.ensures.count, c.requires.few)

pub returns-clause-wrong : goal.returns-clause-wrong
returns-clause-wrong c = λ first errors all size is light q below some.
    let unknown = c.args.unknown.now in
    let rest = c.with_roots-rest.result.items in
    let factors = 1 ∷ rest in
    let left = c.scaled_syndromes-left.result.items in
    let most = length c.as_slice-3.result.now / 2 in
    let half = half_is c in
    let factors_octets : Octets factors = (omega arith, octets_of_all rest c.with_roots-rest.ensures.octets) in
    let whole : length left ≡ 2 * most = omega (arith, half, ap length c.as_slice-3.ensures.value) in
    let values : c.as_slice-3.result.now ≡ values_down (scaled factors errors) first (2 * most) =
    c.as_slice-3.ensures.value ∙ c.scaled_syndromes-left.ensures.values first errors all is
    ∙ ap (λ xs. values_down (scaled xs errors) first (length left)) (factors_is c)
    ∙ ap (values_down (scaled factors errors) first) whole in
    elim (cases_Bool (get_or unknown q false)) [
      | inl flagged ↦ c.united.ensures.second q below flagged
      | inr known ↦
          c.united.ensures.first q below
          (scaled_errors_at_roots first most c.as_slice-3.result.now factors errors c.kernel-coefficients.result unknown
          c.roots-roots.result c.kernel-coefficients.ensures.size (coefficients_are_octets c) factors_octets
          (octets_of_all errors all) size (omega (arith, half, c.requires.most)) values
          c.kernel-coefficients.ensures.meets (are_roots c) c.with_roots-rest.ensures.zero
          (omega (arith, half, light)) q below (c.with_roots-rest.ensures.some q below known) some)
    ]
