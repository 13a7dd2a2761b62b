use Rattle.offset_slicers.proofs.Common.{◌≡◌, ℕ, ℤ, List, ◌+◌, ◌+ℤ◌, ◌∷◌, ◌<◌, ◌≤◌, pos, get_or, unsigned_abs, length}
use Rattle.offset_slicers.proofs.Common.{FitsSigned, arith, sym, subst, ap, ◌∙◌}
use Rattle.std.proofs.Common.{[], w32}
use Rattle.offset_slicers.specs.PairSums.{AreLight, AreSmall, pairs_of_products, product_pair}
use Rattle.offset_slicers.proofs.LaneLemmas.{eight_items, lane, product, product_fits, pair_fits, pair_is, pair_small}
use Rattle.offset_slicers.proofs.LaneLemmas.{four_small}
use Rattle.offset_slicers.proofs.correlators.pairs_of_products.Goals as goal

-- eight samples and their weights
module _ (samples weights : List ℤ) (small : (k : ℕ) → k < 8 → unsigned_abs (get_or samples k (pos 0)) ≤ 32768)
    (light : (k : ℕ) → k < 8 → unsigned_abs (get_or weights k (pos 0)) ≤ 10000) where
  abbrev x : ℕ → ℤ
  x k = get_or samples k (pos 0)

  abbrev w : ℕ → ℤ
  w k = get_or weights k (pos 0)

  fits_at : (k : ℕ) → k < 8 → FitsSigned w32 (product (x k) (w k))
  fits_at k below = product_fits (x k) (w k) (small k below) (light k below)

  pair_fits_at : (k : ℕ) → k < 7 → FitsSigned w32 (lane (product (x k) (w k)) +ℤ lane (product (x (k + 1)) (w (k + 1))))
  pair_fits_at k below =
      pair_fits (x k) (w k) (x (k + 1)) (w (k + 1)) (small k (omega arith)) (light k (omega arith))
      (small (k + 1) (omega arith))
      (light (k + 1) (omega arith))

  pair_is_at : (k : ℕ) → k < 7
      → lane (lane (product (x k) (w k)) +ℤ lane (product (x (k + 1)) (w (k + 1)))) ≡ product_pair samples weights k
  pair_is_at k below =
      pair_is (x k) (w k) (x (k + 1)) (w (k + 1)) (small k (omega arith)) (light k (omega arith))
      (small (k + 1) (omega arith))
      (light (k + 1) (omega arith))

  pair_small_at : (k : ℕ) → k < 7 → unsigned_abs (product_pair samples weights k) ≤ 655360000
  pair_small_at k below =
      pair_small (x k) (w k) (x (k + 1)) (w (k + 1)) (small k (omega arith)) (light k (omega arith))
      (small (k + 1) (omega arith))
      (light (k + 1) (omega arith))

  pairs_small : AreSmall 655360000 (pairs_of_products samples weights)
  pairs_small =
      four_small 655360000 (product_pair samples weights 0) (product_pair samples weights 2)
      (product_pair samples weights 4) (product_pair samples weights 6) (pair_small_at 0 (omega arith))
      (pair_small_at 2 (omega arith)) (pair_small_at 4 (omega arith)) (pair_small_at 6 (omega arith))

-- weights as a vector has them
light_lanes : (weights lanes : List ℤ) → lanes ≡ weights → length weights ≡ 8 → AreLight weights → (k : ℕ) → k < 8
    → unsigned_abs (get_or lanes k (pos 0)) ≤ 10000
light_lanes weights lanes same wide light k below =
    subst (λ ws. unsigned_abs (get_or ws k (pos 0)) ≤ 10000) (sym same) (light.each k (pos 0) (omega arith))

pub overflow_mul-products : goal.overflow_mul-products
overflow_mul-products c =
    let samples = c.args.samples in
    let lanes = c.vector_of.result in
    let long = c.requires.length in
    let small : (k : ℕ) → k < 8 → unsigned_abs (get_or samples k (pos 0)) ≤ 32768
    = λ k below. c.requires.samples k (pos 0) (omega arith) in
    let light = light_lanes c.args.weights.now lanes c.vector_of.ensures.lanes c.told-weights c.requires.weights in
    let fits = fits_at samples lanes small light in
    rw (eight_items samples long, eight_items lanes c.vector_of.ensures.length) (
      fits 0 (omega arith),
      (
        fits 1 (omega arith),
        (
          fits 2 (omega arith),
          (
            fits 3 (omega arith),
            (
              fits 4 (omega arith),
              (
                fits 5 (omega arith),
                (fits 6 (omega arith), (fits 7 (omega arith), tt)),
              ),
            ),
          ),
        ),
      ),
    )

pub overflow_add-result : goal.overflow_add-result
overflow_add-result c =
    let samples = c.args.samples in
    let lanes = c.vector_of.result in
    let long = c.requires.length in
    let small : (k : ℕ) → k < 8 → unsigned_abs (get_or samples k (pos 0)) ≤ 32768
    = λ k below. c.requires.samples k (pos 0) (omega arith) in
    let light = light_lanes c.args.weights.now lanes c.vector_of.ensures.lanes c.told-weights c.requires.weights in
    let fits = pair_fits_at samples lanes small light in
    rw (eight_items samples long, eight_items lanes c.vector_of.ensures.length)
    (fits 0 (omega arith), (fits 2 (omega arith), (fits 4 (omega arith), (fits 6 (omega arith), tt))))

pub returns-clause-pairs : goal.returns-clause-pairs
returns-clause-pairs c =
    let samples = c.args.samples in
    let lanes = c.vector_of.result in
    let long = c.requires.length in
    let small : (k : ℕ) → k < 8 → unsigned_abs (get_or samples k (pos 0)) ≤ 32768
    = λ k below. c.requires.samples k (pos 0) (omega arith) in
    let light = light_lanes c.args.weights.now lanes c.vector_of.ensures.lanes c.told-weights c.requires.weights in
    let is = pair_is_at samples lanes small light in
    let first = is 0 (omega arith) in
    let second = is 2 (omega arith) in
    let third = is 4 (omega arith) in
    let fourth = is 6 (omega arith) in
    (rw (eight_items samples long, eight_items lanes c.vector_of.ensures.length)
    (λ i. first i ∷ second i ∷ third i ∷ fourth i ∷ [])) ∙ ap (pairs_of_products samples) c.vector_of.ensures.lanes

pub returns-clause-bound : goal.returns-clause-bound
returns-clause-bound c =
    let samples = c.args.samples in
    let weights = c.args.weights.now in
    let small : (k : ℕ) → k < 8 → unsigned_abs (get_or samples k (pos 0)) ≤ 32768
    = λ k below. c.requires.samples k (pos 0) (omega (arith, c.requires.length)) in
    let light = light_lanes weights weights (λ i. weights) c.told-weights c.requires.weights in
    subst (AreSmall 655360000) (sym (returns-clause-pairs c)) (pairs_small samples weights small light)
