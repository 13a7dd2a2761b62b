use Rattle.offset_slicers.proofs.Common.{◌≡◌, ◌≤◌, ◌<◌, ◌∙◌, ℕ, List, ℤ, pos, get_or, ◌+ℤ◌, map, length, to_z, of_z, sym, subst, ap, arith}
use Rattle.offset_slicers.proofs.Common.{unsigned_abs}
use Rattle.std.proofs.Common.{w32}
use Rattle.std.specs.List.{All}
use Rattle.offset_slicers.specs.PairSums.{AreLight, AreSmall, in_pairs, pairs_of_products, product_pair}
use Rattle.offset_slicers.proofs.LaneLemmas.{passed_below, smaller, four_small, front_small, back_small}
use Rattle.offset_slicers.proofs.correlators.half_sums.Goals as goal

abbrev passed : List ℤ → List ℤ
passed xs = map (to_z w32) (map (of_z w32) xs)

-- a vector as it is passed
pairs_passed : (xs : List ℤ) → AreSmall 655360000 xs → passed xs ≡ xs
pairs_passed xs are = passed_below 655360000 (omega arith) xs are.small

samples_passed : (xs : List ℤ) → All (λ sample. unsigned_abs sample ≤ 32768) xs → passed xs ≡ xs
samples_passed xs small = passed_below 32768 (omega arith) xs small

-- the halves of two tones' sums
halves_small : (samples sine cosine : List ℤ) → length samples ≡ 8 → All (λ sample. unsigned_abs sample ≤ 32768) samples
    → length sine ≡ 8 → length cosine ≡ 8 → AreLight sine → AreLight cosine
    → AreSmall 1050000000 (in_pairs (pairs_of_products samples sine) (pairs_of_products samples cosine))
halves_small samples sine cosine long small one two light_sine light_cosine =
    let each : (k : ℕ) → k < 8 → unsigned_abs (get_or samples k (pos 0)) ≤ 32768
    = λ k below. small k (pos 0) (omega arith) in
    four_small 1050000000 (product_pair samples sine 0 +ℤ product_pair samples sine 2)
    (product_pair samples sine 4 +ℤ product_pair samples sine 6)
    (product_pair samples cosine 0 +ℤ product_pair samples cosine 2)
    (product_pair samples cosine 4 +ℤ product_pair samples cosine 6) (front_small samples sine one each light_sine)
    (back_small samples sine one each light_sine) (front_small samples cosine two each light_cosine)
    (back_small samples cosine two each light_cosine)

pub pairs_of_products-requires-clause-samples : goal.pairs_of_products-requires-clause-samples
pairs_of_products-requires-clause-samples c =
    subst (All (λ sample. unsigned_abs sample ≤ 32768)) (sym (samples_passed c.args.samples c.requires.samples))
    c.requires.samples

pub pairs_of_products-requires-2-clause-samples : goal.pairs_of_products-requires-2-clause-samples
pairs_of_products-requires-2-clause-samples c =
    subst (All (λ sample. unsigned_abs sample ≤ 32768)) (sym (samples_passed c.args.samples c.requires.samples))
    c.requires.samples

pub in_pairs-requires-clause-first : goal.in_pairs-requires-clause-first
in_pairs-requires-clause-first c =
    let pairs = c.pairs_of_products in
    subst (AreSmall 1050000000) (sym (pairs_passed pairs.result pairs.ensures.bound))
    (smaller 655360000 1050000000 (omega arith) pairs.result pairs.ensures.bound)

pub in_pairs-requires-clause-second : goal.in_pairs-requires-clause-second
in_pairs-requires-clause-second c =
    let pairs = c.pairs_of_products-2 in
    subst (AreSmall 1050000000) (sym (pairs_passed pairs.result pairs.ensures.bound))
    (smaller 655360000 1050000000 (omega arith) pairs.result pairs.ensures.bound)

-- the pairs of what was passed are those of what was given
unpassed : (samples sine cosine first second result : List ℤ) → length samples ≡ 8
    → All (λ sample. unsigned_abs sample ≤ 32768) samples
    → length sine ≡ 8 → length cosine ≡ 8 → AreLight sine → AreLight cosine
    → AreSmall 655360000 first → AreSmall 655360000 second
    → first ≡ pairs_of_products (passed samples) sine → second ≡ pairs_of_products (passed samples) cosine
    → result ≡ in_pairs (passed first) (passed second)
    → (passed result ≡ in_pairs (pairs_of_products samples sine) (pairs_of_products samples cosine))
    × AreSmall 1050000000 (passed result)
unpassed samples sine cosine first second result long small one_long two_long light_sine light_cosine first_small
    second_small first_is second_is is =
    let came = samples_passed samples small in
    let one : first ≡ pairs_of_products samples sine = first_is ∙ ap (λ xs. pairs_of_products xs sine) came in
    let two : second ≡ pairs_of_products samples cosine = second_is ∙ ap (λ xs. pairs_of_products xs cosine) came in
    let same : result ≡ in_pairs (pairs_of_products samples sine) (pairs_of_products samples cosine)
    = is ∙ (λ i. in_pairs (pairs_passed first first_small i) (pairs_passed second second_small i))
    ∙ (λ i. in_pairs (one i) (two i)) in
    let bound : AreSmall 1050000000 result
    = subst (AreSmall 1050000000) (sym same)
    (halves_small samples sine cosine long small one_long two_long light_sine light_cosine) in
    let gone : passed result ≡ result = passed_below 1050000000 (omega arith) result bound.small in
    (gone ∙ same, subst (AreSmall 1050000000) (sym gone) bound)

pub returns-clause-sums : goal.returns-clause-sums
returns-clause-sums c =
    let p = c.pairs_of_products in
    let q = c.pairs_of_products-2 in
    (unpassed c.args.samples c.args.sine.now c.args.cosine.now p.result q.result c.in_pairs.result c.requires.length
    c.requires.samples c.told-sine c.told-cosine c.requires.sine c.requires.cosine
    p.ensures.bound q.ensures.bound p.ensures.pairs q.ensures.pairs c.in_pairs.ensures).0

pub returns-clause-bound : goal.returns-clause-bound
returns-clause-bound c =
    let p = c.pairs_of_products in
    let q = c.pairs_of_products-2 in
    (unpassed c.args.samples c.args.sine.now c.args.cosine.now p.result q.result c.in_pairs.result c.requires.length
    c.requires.samples c.told-sine c.told-cosine c.requires.sine c.requires.cosine
    p.ensures.bound q.ensures.bound p.ensures.pairs q.ensures.pairs c.in_pairs.ensures).1
