-- Two windows of samples near a wave, one after the other: the second runs on from the first. What an error of a tenth
-- of the level can do is computed for each pair of tones and each phase at which a bit can begin.
use Rattle.std.proofs.Common.{◌≡◌, ℕ, ◌+◌, ◌*◌, ◌<◌, ◌≤◌, ℤ, pos, ◌+ℤ◌, ◌-ℤ◌, ◌*ℤ◌, ◌≤ℤ◌, ◌<ℤ◌, List, Bool, true, refl}
use Rattle.std.proofs.Common.{ap, sym, subst, ◌∙◌, arith}
use Rattle.std.specs.Prelude.{int_lt}
use Rattle.std.proofs.lemmas.Bool.{agree_below, agree_below_at}
use Rattle.std.proofs.lemmas.Int.{ints}
use Rattle.std.proofs.Math.Nat.{mul-le-mul}
use Rattle.std.proofs.Math.IntN.{pos-*ℤ-pos, zero-*ℤ}
use Rattle.tone_table.specs.declared.tone.Tone.{Tone}
use Rattle.tone_table.specs.declared.tone.Tone.TheVariants.{Mark, Space}
use Rattle.tone_table.specs.Sine.{wave_sample, cycle_sample, half_wave, quarter}
use Rattle.tone_table.specs.Tones.{next_phase}
use Rattle.tone_table.specs.Wave.{pure_window}
use Rattle.offset_slicers.specs.Decision.{sum_below, sine_sum, cosine_sum, tone_of}
use Rattle.offset_slicers.specs.Near.{IsNear}
use Rattle.offset_slicers.proofs.NearWindows.{tone_of-near}
use Rattle.offset_slicers.proofs.WaveLemmas.{length-pure_window, next_phase-sixth}
use Rattle.tone_carrier.specs.declared.heard_window.HeardWindow.{HeardWindow}
use Rattle.tone_carrier.specs.HeardWindows.{heard_window, part_of, power}
use Rattle.tone_carrier.specs.RunsOn.{turned_product, runs_on}
use Rattle.tone_carrier.proofs.BilinearLemmas.{product_of_sums, scaled, at_all_edges, least_product}
use Rattle.tone_carrier.proofs.NearSums.{sine_near, cosine_near, part_near, power_near, low_of, high_of, loudest_below}

-- the product of two windows by their four sums: eight times in phase after mark, four and seven times after space
abbrev first_weight : Tone → ℤ
first_weight Mark = pos 8
first_weight Space = pos 4

abbrev second_weight : Tone → ℤ
second_weight Mark = pos 0
second_weight Space = pos 7

abbrev product_after : Tone → ℤ → ℤ → ℤ → ℤ → ℤ
product_after tone x y z w = product_of_sums (first_weight tone) (second_weight tone) x y z w

-- 170 times the power of both, times 64 and 65536, in the units of the loudest squares
abbrev most_power : List ℤ → List ℤ → ℕ
most_power v w = 713031680 * (loudest_below v 8 + loudest_below w 8)

-- what is computed: at all edges the product is larger than the power can be
abbrev is_clear : Tone → Tone → List ℤ → List ℤ → Bool
is_clear t u v w =
    at_all_edges (first_weight t) (second_weight t) (low_of (sine_sum t v)) (high_of (sine_sum t v))
    (low_of (cosine_sum t v)) (high_of (cosine_sum t v)) (low_of (sine_sum u w)) (high_of (sine_sum u w))
    (low_of (cosine_sum u w)) (high_of (cosine_sum u w)) (pos (most_power v w + 1))

abbrev is_clear_at : Tone → Tone → ℕ → Bool
is_clear_at t u k = is_clear t u (pure_window (8 * k) t) (pure_window (next_phase (8 * k) t) u)

all_clear : (t u : Tone) → agree_below (is_clear_at t u) (λ _. true) 6 ≡ true
unfolding pure_window wave_sample cycle_sample half_wave quarter sum_below sine_sum cosine_sum
all_clear Mark Mark = refl
all_clear Mark Space = refl
all_clear Space Mark = refl
all_clear Space Space = refl

less_is : (a b : ℤ) → a <ℤ b → int_lt a b ≡ true
less_is a b less = grind (arith, ints)

-- what is heard in a window that is decided as a tone
abbrev heard_as : Tone → List ℤ → HeardWindow
heard_as tone x =
    record { tone = tone; sine = part_of (sine_sum tone x); cosine = part_of (cosine_sum tone x); power = power x }

turned_is : (t : Tone) (v w : HeardWindow)
    → turned_product t v w ≡ product_after t v.sine v.cosine w.sine w.cosine
turned_is Mark v w = omega (arith, ints, zero-*ℤ (v.cosine *ℤ w.sine -ℤ v.sine *ℤ w.cosine))
turned_is Space v w = refl

-- a product that is larger than the power of both, each being told in larger units
larger : (level most : ℕ) (p q product scaled_product : ℤ) (first second : ℕ) → 1 ≤ level
    → (pos 100000000 *ℤ p) ≤ℤ pos (64 * ((level * level) * first))
    → (pos 100000000 *ℤ q) ≤ℤ pos (64 * ((level * level) * second))
    → most ≡ 713031680 * (first + second)
    → (pos level *ℤ (pos level *ℤ pos (most + 1))) ≤ℤ scaled_product
    → scaled_product ≡ pos 2560000 *ℤ (pos 2560000 *ℤ product)
    → (pos 170 *ℤ (p +ℤ q)) <ℤ product
larger level most p q product scaled_product first second some loud louder is least scale =
    let squares : ℕ = level * level in
    let positive : 1 * 1 ≤ level * level = mul-le-mul some some in
    let inner : pos level *ℤ (pos level *ℤ pos (most + 1)) ≡ pos (level * (level * (most + 1)))
    = ap (λ z. pos level *ℤ z) (pos-*ℤ-pos level (most + 1)) ∙ pos-*ℤ-pos level (level * (most + 1)) in
    let spread : level * (level * (713031680 * (first + second) + 1))
    ≡ 713031680 * ((level * level) * first) + 713031680 * ((level * level) * second) + level * level = grind arith in
    let there : level * (level * (most + 1)) ≡ level * (level * (713031680 * (first + second) + 1))
    = ap (λ m. level * (level * (m + 1))) is in
    omega (arith, ints, loud, louder, least, scale, inner, spread, there, positive)

module _ (level k : ℕ) (t u : Tone) (x y : List ℤ) (some : 1 ≤ level) (below : k < 6)
    (first : IsNear level (pure_window (8 * k) t) x) (second : IsNear level (pure_window (next_phase (8 * k) t) u) y)
  where
    tone_x : tone_of x ≡ t
    tone_x = tone_of-near level k t x (omega arith) below first

    tone_y : tone_of y ≡ u
    tone_y =
        let next = next_phase-sixth k t below in
        tone_of-near level next.0 u y (omega arith) next.1
        (subst (λ phase. IsNear level (pure_window phase u) y) next.2 second)

    runs : (pos 170 *ℤ (power x +ℤ power y))
        <ℤ product_after t (part_of (sine_sum t x)) (part_of (cosine_sum t x)) (part_of (sine_sum u y))
        (part_of (cosine_sum u y))
    runs =
        let a = pure_window (8 * k) t in
        let b = pure_window (next_phase (8 * k) t) u in
        let whole = length-pure_window (8 * k) t in
        let whole_next = length-pure_window (next_phase (8 * k) t) u in
        let clear : is_clear_at t u k ≡ true = agree_below_at (is_clear_at t u) (λ _. true) 6 k (all_clear t u) below in
        larger level (most_power a b) (power x) (power y)
        (product_after t (part_of (sine_sum t x)) (part_of (cosine_sum t x)) (part_of (sine_sum u y))
        (part_of (cosine_sum u y)))
        (product_after t (pos 2560000 *ℤ part_of (sine_sum t x)) (pos 2560000 *ℤ part_of (cosine_sum t x))
        (pos 2560000 *ℤ part_of (sine_sum u y)) (pos 2560000 *ℤ part_of (cosine_sum u y)))
        (loudest_below a 8) (loudest_below b 8) some (power_near level a x whole first)
        (power_near level b y whole_next second) refl
        (least_product level (first_weight t) (second_weight t) (low_of (sine_sum t a)) (high_of (sine_sum t a))
        (low_of (cosine_sum t a)) (high_of (cosine_sum t a)) (low_of (sine_sum u b)) (high_of (sine_sum u b))
        (low_of (cosine_sum u b)) (high_of (cosine_sum u b)) _ _ _ _ (pos (most_power a b + 1))
        (part_near level (sine_sum t a) (sine_sum t x) some (sine_near level t a x whole first))
        (part_near level (cosine_sum t a) (cosine_sum t x) some (cosine_near level t a x whole first))
        (part_near level (sine_sum u b) (sine_sum u y) some (sine_near level u b y whole_next second))
        (part_near level (cosine_sum u b) (cosine_sum u y) some (cosine_near level u b y whole_next second)) clear)
        (scaled (first_weight t) (second_weight t) (pos 2560000) (part_of (sine_sum t x)) (part_of (cosine_sum t x))
        (part_of (sine_sum u y)) (part_of (cosine_sum u y)))

    -- the second runs on from the first
    pub next_runs_on : runs_on (heard_window x) (heard_window y) ≡ true
    unfolding heard_window
    next_runs_on =
        let both : ℤ = pos 170 *ℤ (power x +ℤ power y) in
        less_is both (turned_product (tone_of x) (heard_as (tone_of x) x) (heard_as (tone_of y) y))
        (subst (λ t'. both <ℤ turned_product t' (heard_as t' x) (heard_as (tone_of y) y)) (sym tone_x)
        (subst (λ u'. both <ℤ turned_product t (heard_as t x) (heard_as u' y)) (sym tone_y)
        (subst (λ z. both <ℤ z) (sym (turned_is t (heard_as t x) (heard_as u y))) runs)))
