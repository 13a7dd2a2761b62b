use Rattle.std.proofs.Common.{◌≡◌, ◌≤◌, pos, ◌+ℤ◌, ◌-ℤ◌, ◌*ℤ◌, ℤ, unsigned_abs, to_z, of_z, w64, ap, sym, ◌∙◌, arith}
use Rattle.std.proofs.lemmas.Int.{ints}
use Rattle.tone_carrier.specs.RunsOn.{turned_product}
use Rattle.tone_carrier.proofs.NumberLemmas.{passed}
use Rattle.tone_carrier.proofs.comparison.ahead.Goals as goal

pub overflow_add-in_phase : goal.overflow_add-in_phase
overflow_add-in_phase c =
    let a = c.product.ensures.bound in
    let b = c.product-2.ensures.bound in
    omega (arith, ints)

pub overflow_mul-result : goal.overflow_mul-result
overflow_mul-result c =
    let a = c.product.ensures.bound in
    let b = c.product-2.ensures.bound in
    omega (arith, ints)

pub overflow_sub-across : goal.overflow_sub-across
overflow_sub-across c =
    let a = c.product-in-Space.ensures.bound in
    let b = c.product-in-Space-2.ensures.bound in
    omega (arith, ints)

pub overflow_mul-result-in-Space : goal.overflow_mul-result-in-Space
overflow_mul-result-in-Space c =
    let a = c.product.ensures.bound in
    let b = c.product-2.ensures.bound in
    omega (arith, ints)

pub overflow_mul-result-in-Space-2 : goal.overflow_mul-result-in-Space-2
overflow_mul-result-in-Space-2 c =
    let a = c.product-in-Space.ensures.bound in
    let b = c.product-in-Space-2.ensures.bound in
    omega (arith, ints)

-- the numbers as they are passed and given back
eightfold : (p q : ℤ) → unsigned_abs p ≤ 104857600000000 → unsigned_abs q ≤ 104857600000000
    → to_z w64 (of_z w64 (pos 8 *ℤ to_z w64 (of_z w64 (to_z w64 (of_z w64 p) +ℤ to_z w64 (of_z w64 q)))))
    ≡ pos 8 *ℤ (p +ℤ q)
eightfold p q a b = omega (arith, ints)

fourfold : (p q : ℤ) → unsigned_abs p ≤ 104857600000000 → unsigned_abs q ≤ 104857600000000
    → to_z w64 (of_z w64 (pos 4 *ℤ to_z w64 (of_z w64 (to_z w64 (of_z w64 p) +ℤ to_z w64 (of_z w64 q)))))
    ≡ pos 4 *ℤ (p +ℤ q)
fourfold p q a b = omega (arith, ints)

sevenfold : (p q : ℤ) → unsigned_abs p ≤ 104857600000000 → unsigned_abs q ≤ 104857600000000
    → to_z w64 (of_z w64 (pos 7 *ℤ to_z w64 (of_z w64 (to_z w64 (of_z w64 p) -ℤ to_z w64 (of_z w64 q)))))
    ≡ pos 7 *ℤ (p -ℤ q)
sevenfold p q a b = omega (arith, ints)

eight_bound : (p q : ℤ) → unsigned_abs p ≤ 104857600000000 → unsigned_abs q ≤ 104857600000000
    → unsigned_abs (pos 8 *ℤ (p +ℤ q)) ≤ 4503599627370496
eight_bound p q a b = omega (arith, ints)

both : (u v y z : ℤ) → u ≡ y → v ≡ z → unsigned_abs y ≤ 1000000000000000 → unsigned_abs z ≤ 2000000000000000
    → (to_z w64 (of_z w64 (u +ℤ v)) ≡ y +ℤ z) × (unsigned_abs (y +ℤ z) ≤ 4503599627370496)
both u v y z is_y is_z a b =
    ((λ i. to_z w64 (of_z w64 (is_y i +ℤ is_z i))) ∙ passed (y +ℤ z) (omega (arith, ints)), omega (arith, ints))

pub overflow_add-result : goal.overflow_add-result
overflow_add-result c =
    let a = c.product.ensures.bound in
    let b = c.product-2.ensures.bound in
    let d = c.product-in-Space.ensures.bound in
    let e = c.product-in-Space-2.ensures.bound in
    let four = fourfold c.product.result c.product-2.result a b in
    let seven = sevenfold c.product-in-Space.result c.product-in-Space-2.result d e in
    omega (arith, ints)

pub returns-in-Mark-clause-ahead : goal.returns-in-Mark-clause-ahead
returns-in-Mark-clause-ahead c =
    let before = c.args.before.now in
    let window = c.args.window.now in
    let s = passed before.sine (let h = c.requires.before.sine in omega arith) in
    let t = passed window.sine (let h = c.requires.window.sine in omega arith) in
    let u = passed before.cosine (let h = c.requires.before.cosine in omega arith) in
    let v = passed window.cosine (let h = c.requires.window.cosine in omega arith) in
    let first : c.product.result ≡ before.sine *ℤ window.sine = c.product.ensures.value ∙ (λ i. s i *ℤ t i) in
    let second : c.product-2.result ≡ before.cosine *ℤ window.cosine
    = c.product-2.ensures.value ∙ (λ i. u i *ℤ v i) in
    eightfold c.product.result c.product-2.result c.product.ensures.bound c.product-2.ensures.bound
    ∙ (λ i. pos 8 *ℤ (first i +ℤ second i)) ∙ ap (λ tone. turned_product tone before window) (sym c.in-Mark.is)

pub returns-in-Mark-clause-bound : goal.returns-in-Mark-clause-bound
returns-in-Mark-clause-bound c =
    let a = c.product.ensures.bound in
    let b = c.product-2.ensures.bound in
    let value = eightfold c.product.result c.product-2.result a b in
    omega (arith, ap unsigned_abs value, eight_bound c.product.result c.product-2.result a b)

pub returns-in-Space-clause-ahead : goal.returns-in-Space-clause-ahead
returns-in-Space-clause-ahead c =
    let before = c.args.before.now in
    let window = c.args.window.now in
    let s = passed before.sine (let h = c.requires.before.sine in omega arith) in
    let t = passed window.sine (let h = c.requires.window.sine in omega arith) in
    let u = passed before.cosine (let h = c.requires.before.cosine in omega arith) in
    let v = passed window.cosine (let h = c.requires.window.cosine in omega arith) in
    let a = c.product.ensures.bound in
    let b = c.product-2.ensures.bound in
    let d = c.product-in-Space.ensures.bound in
    let e = c.product-in-Space-2.ensures.bound in
    let p = c.product.result in
    let q = c.product-2.result in
    let m = c.product-in-Space.result in
    let n = c.product-in-Space-2.result in
    let first : p ≡ before.sine *ℤ window.sine = c.product.ensures.value ∙ (λ i. s i *ℤ t i) in
    let second : q ≡ before.cosine *ℤ window.cosine = c.product-2.ensures.value ∙ (λ i. u i *ℤ v i) in
    let third : m ≡ before.cosine *ℤ window.sine = c.product-in-Space.ensures.value ∙ (λ i. u i *ℤ t i) in
    let fourth : n ≡ before.sine *ℤ window.cosine = c.product-in-Space-2.ensures.value ∙ (λ i. s i *ℤ v i) in
    let four : unsigned_abs (pos 4 *ℤ (p +ℤ q)) ≤ 1000000000000000 = omega (arith, ints) in
    let seven : unsigned_abs (pos 7 *ℤ (m -ℤ n)) ≤ 2000000000000000 = omega (arith, ints) in
    (both _ _ (pos 4 *ℤ (p +ℤ q)) (pos 7 *ℤ (m -ℤ n)) (fourfold p q a b) (sevenfold m n d e) four seven).0
    ∙ (λ i. pos 4 *ℤ (first i +ℤ second i) +ℤ pos 7 *ℤ (third i -ℤ fourth i))
    ∙ ap (λ tone. turned_product tone before window) (sym c.in-Space.is)

pub returns-in-Space-clause-bound : goal.returns-in-Space-clause-bound
returns-in-Space-clause-bound c =
    let a = c.product.ensures.bound in
    let b = c.product-2.ensures.bound in
    let d = c.product-in-Space.ensures.bound in
    let e = c.product-in-Space-2.ensures.bound in
    let p = c.product.result in
    let q = c.product-2.result in
    let m = c.product-in-Space.result in
    let n = c.product-in-Space-2.result in
    let four : unsigned_abs (pos 4 *ℤ (p +ℤ q)) ≤ 1000000000000000 = omega (arith, ints) in
    let seven : unsigned_abs (pos 7 *ℤ (m -ℤ n)) ≤ 2000000000000000 = omega (arith, ints) in
    let sum = both _ _ (pos 4 *ℤ (p +ℤ q)) (pos 7 *ℤ (m -ℤ n)) (fourfold p q a b) (sevenfold m n d e) four seven in
    let value = ap unsigned_abs sum.0 in
    let bound = sum.1 in
    omega (arith, value, bound)
