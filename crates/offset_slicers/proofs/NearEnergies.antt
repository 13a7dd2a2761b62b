-- Energies of tones in windows near others, whatever their length and the steps of the tones. An error of a tenth of
-- the level can change a correlation by a tenth of the sum of the weights' sizes at most; where that is too little to
-- make the other tone the louder one, a window near another is decided as that one is.
use Rattle.offset_slicers.proofs.Common.{◌≡◌, ℕ, zero, suc, ◌+◌, ◌-◌, ◌*◌, ◌<◌, ◌≤◌, ℤ, pos, ◌+ℤ◌, ◌-ℤ◌, ◌*ℤ◌, Bool}
use Rattle.offset_slicers.proofs.Common.{true, List, length, get_or, unsigned_abs, ap, sym, ◌∙◌, arith, agree_below_at}
use Rattle.offset_slicers.proofs.Common.{ints, unsigned_abs-mul, mul-le-mul_left, mul-le-mul_right, mul-add, Tone, Mark}
use Rattle.offset_slicers.proofs.Common.{Space, wave_sample, sum_below, distance, IsNear}
use Rattle.std.proofs.Common.{nat_lt, nat_le}
use Rattle.std.specs.Prelude.{◌&&◌, if◌then◌else◌}
use Rattle.std.proofs.lemmas.Bool.{agree_below, and_parts, leb-true, ltb-true, le-leb, lt-leb, cond-true, cond-false}
use Rattle.std.proofs.Math.Nat.{mul-le-mul, mul-lt-mul_of_pos_left, mul-sub}
use Rattle.offset_slicers.specs.Decision.{square}
use Rattle.offset_slicers.proofs.IntegerLemmas.{mul-add_right, mul-sub_left, mul-assoc}

-- ---- sums of products

-- the distance of products by one weight
distance-mul : (level : ℕ) (w x s : ℤ) → distance level (w *ℤ s) (x *ℤ s) ≡ distance level w x * unsigned_abs s
distance-mul level w x s =
    ap unsigned_abs (
    (λ i. sym (mul-assoc (pos 10000) x s) i -ℤ sym (mul-assoc (pos level) w s) i)
    ∙ sym (mul-sub_left (pos 10000 *ℤ x) (pos level *ℤ w) s))
    ∙ unsigned_abs-mul (pos 10000 *ℤ x -ℤ pos level *ℤ w) s

-- sums are no farther apart than their parts together
distance-add : (level : ℕ) (w x v y : ℤ) → distance level (w +ℤ v) (x +ℤ y) ≤ distance level w x + distance level v y
distance-add level w x v y = omega (arith, ints, mul-add_right (pos 10000) x y, mul-add_right (pos level) w v)

-- the sizes of f 0 to f (n - 1), added up
abbrev sizes_below : (ℕ → ℤ) → ℕ → ℕ
sizes_below f zero = 0
sizes_below f (suc n) = sizes_below f n + unsigned_abs (f n)

-- the numbers of a list, each times a weight
abbrev weighted : List ℤ → (ℕ → ℤ) → ℕ → ℤ
weighted xs weight i = get_or xs i (pos 0) *ℤ weight i

-- the sums of two lists with the same weights
sums-distance : (level : ℕ) (ws xs : List ℤ) (weight : ℕ → ℤ) (n : ℕ)
    → ((i : ℕ) → i < n → distance level (get_or ws i (pos 0)) (get_or xs i (pos 0)) ≤ 1000 * level)
    → distance level (sum_below (weighted ws weight) n) (sum_below (weighted xs weight) n)
    ≤ 1000 * level * sizes_below weight n
unfolding sum_below
sums-distance level ws xs weight zero close = omega (arith, ints)
sums-distance level ws xs weight (suc n) close =
    let w : ℤ = get_or ws n (pos 0) in
    let x : ℤ = get_or xs n (pos 0) in
    let both : distance level (sum_below (weighted ws weight) (suc n)) (sum_below (weighted xs weight) (suc n))
    ≤ distance level (sum_below (weighted ws weight) n) (sum_below (weighted xs weight) n) + distance level
    (w *ℤ weight n) (x *ℤ weight n)
    = distance-add level (sum_below (weighted ws weight) n) (sum_below (weighted xs weight) n) (w *ℤ weight n)
    (x *ℤ weight n) in
    let last = distance-mul level w x (weight n) in
    let most : distance level w x * unsigned_abs (weight n) ≤ 1000 * level * unsigned_abs (weight n)
    = mul-le-mul_right (unsigned_abs (weight n)) (close n (omega arith)) in
    let before = sums-distance level ws xs weight n (λ i below. close i (omega arith)) in
    let more : 1000 * level * sizes_below weight (suc n)
    ≡ 1000 * level * sizes_below weight n + 1000 * level * unsigned_abs (weight n)
    = mul-add (1000 * level) (sizes_below weight n) (unsigned_abs (weight n)) in
    omega arith

-- ---- two numbers

-- what the distance of two numbers says of their sizes
sizes_near : (level slack : ℕ) (u v : ℤ) → distance level u v ≤ level * slack
    → (10000 * unsigned_abs v ≤ level * (unsigned_abs u + slack))
    × (level * (unsigned_abs u - slack) ≤ 10000 * unsigned_abs v)
sizes_near level slack u v near =
    let size_v = unsigned_abs-mul (pos 10000) v in
    let size_u = unsigned_abs-mul (pos level) u in
    let more = mul-add level (unsigned_abs u) slack in
    let less = mul-sub level (unsigned_abs u) slack in
    (omega (arith, ints, size_v, size_u, more), omega (arith, ints, size_v, size_u, less))

square_most : (level u v : ℕ) → 10000 * v ≤ level * u → 100000000 * (v * v) ≤ (level * level) * (u * u)
square_most level u v le =
    let both : (10000 * v) * (10000 * v) ≤ (level * u) * (level * u) = mul-le-mul le le in
    let left : (10000 * v) * (10000 * v) ≡ 100000000 * (v * v) = grind arith in
    let right : (level * u) * (level * u) ≡ (level * level) * (u * u) = grind arith in
    omega arith

square_least : (level u v : ℕ) → level * u ≤ 10000 * v → (level * level) * (u * u) ≤ 100000000 * (v * v)
square_least level u v le =
    let both : (level * u) * (level * u) ≤ (10000 * v) * (10000 * v) = mul-le-mul le le in
    let left : (10000 * v) * (10000 * v) ≡ 100000000 * (v * v) = grind arith in
    let right : (level * u) * (level * u) ≡ (level * level) * (u * u) = grind arith in
    omega arith

-- the sum of two numbers' squares, each number larger by the slack, and each smaller
abbrev most_of : ℕ → ℤ → ℤ → ℕ
most_of slack s c =
    (unsigned_abs s + slack) * (unsigned_abs s + slack) + (unsigned_abs c + slack) * (unsigned_abs c + slack)

abbrev least_of : ℕ → ℤ → ℤ → ℕ
least_of slack s c =
    (unsigned_abs s - slack) * (unsigned_abs s - slack) + (unsigned_abs c - slack) * (unsigned_abs c - slack)

-- the squares of two numbers near two others
module _ (level slack : ℕ) (s c t d : ℤ) (sine : distance level s t ≤ level * slack)
    (cosine : distance level c d ≤ level * slack) where
  squares_most : 100000000 * (square t + square d) ≤ (level * level) * most_of slack s c
  squares_most = omega (
    arith,
    square_most level (unsigned_abs s + slack) (unsigned_abs t) (sizes_near level slack s t sine).0,
    square_most level (unsigned_abs c + slack) (unsigned_abs d) (sizes_near level slack c d cosine).0,
    mul-add (level * level) ((unsigned_abs s + slack) * (unsigned_abs s + slack))
        ((unsigned_abs c + slack) * (unsigned_abs c + slack)),
  )

  squares_least : (level * level) * least_of slack s c ≤ 100000000 * (square t + square d)
  squares_least = omega (
    arith,
    square_least level (unsigned_abs s - slack) (unsigned_abs t) (sizes_near level slack s t sine).1,
    square_least level (unsigned_abs c - slack) (unsigned_abs d) (sizes_near level slack c d cosine).1,
    mul-add (level * level) ((unsigned_abs s - slack) * (unsigned_abs s - slack))
        ((unsigned_abs c - slack) * (unsigned_abs c - slack)),
  )

-- the energies of two tones, if one's most is less than the other's least
louder : (level quiet loud upper lower : ℕ) → 1 ≤ level → upper < lower → 100000000 * quiet ≤ (level * level) * upper
    → (level * level) * lower ≤ 100000000 * loud → quiet < loud
louder level quiet loud upper lower some apart below above =
    let square : 1 * 1 ≤ level * level = mul-le-mul some some in
    let positive : 0 < level * level = omega arith in
    let between : (level * level) * upper < (level * level) * lower = mul-lt-mul_of_pos_left apart positive in
    omega arith

-- ---- windows

-- How the tones of windows are decided: the number of samples, the steps of a tone in forty-eighths of a cycle, and
-- a thousand times as much as the sizes of a correlator's weights add up to, or more.
pub record Correlators : Type 0 where
  pub size : ℕ
  pub step : Tone → ℕ
  pub slack : ℕ

abbrev weight_of : Correlators → Tone → ℕ → ℕ → ℤ
weight_of by tone shift i = wave_sample (i * by.step tone + shift)

abbrev correlation : Correlators → Tone → ℕ → List ℤ → ℤ
correlation by tone shift w = sum_below (weighted w (weight_of by tone shift)) by.size

abbrev energy_of : Correlators → Tone → List ℤ → ℕ
energy_of by tone w = square (correlation by tone 0 w) + square (correlation by tone 12 w)

-- the most and the least energy of a tone in windows near one, per square of the level and of a ten thousandth of it
abbrev most : Correlators → Tone → List ℤ → ℕ
most by tone w = most_of by.slack (correlation by tone 0 w) (correlation by tone 12 w)

abbrev least : Correlators → Tone → List ℤ → ℕ
least by tone w = least_of by.slack (correlation by tone 0 w) (correlation by tone 12 w)

-- a tone's least in a window is more than another's most
abbrev is_louder : Correlators → Tone → Tone → List ℤ → Bool
is_louder by loud quiet w = nat_lt (most by quiet w) (least by loud w)

-- the slack is enough for a tone's sine and its cosine
abbrev has_slack : Correlators → Tone → Bool
has_slack by tone =
    nat_le (1000 * sizes_below (weight_of by tone 0) by.size) by.slack
    && nat_le (1000 * sizes_below (weight_of by tone 12) by.size) by.slack

-- what can be computed for some windows of each tone: the slack is enough, and each is louder in its own windows
abbrev pub is_clear : Correlators → ℕ → (ℕ → Tone → List ℤ) → Bool
is_clear by count windows =
    (has_slack by Mark && has_slack by Space)
    && (agree_below (λ k. is_louder by Mark Space (windows k Mark)) (λ _. true) count
    && agree_below (λ k. is_louder by Space Mark (windows k Space)) (λ _. true) count)

module _ (by : Correlators) (level : ℕ) (ws xs : List ℤ) (whole : length ws ≡ by.size) (near : IsNear level ws xs) where
  correlation_near : (tone : Tone) (shift : ℕ)
      → nat_le (1000 * sizes_below (weight_of by tone shift) by.size) by.slack ≡ true
      → distance level (correlation by tone shift ws) (correlation by tone shift xs) ≤ level * by.slack
  correlation_near tone shift few =
      let weight : ℕ → ℤ = weight_of by tone shift in
      let sums = sums-distance level ws xs weight by.size (λ i below. near.close i (omega arith)) in
      let sizes : ℕ = sizes_below weight by.size in
      let same : 1000 * level * sizes ≡ level * (1000 * sizes) = grind arith in
      let most = mul-le-mul_left level (leb-true _ _ few) in
      omega (arith, sums, same, most)

  quieter : (loud quiet : Tone) → has_slack by loud ≡ true → has_slack by quiet ≡ true → 1 ≤ level
      → is_louder by loud quiet ws ≡ true → energy_of by quiet xs < energy_of by loud xs
  quieter loud quiet few less some apart =
      let large = and_parts _ _ few in
      let small = and_parts _ _ less in
      louder level (energy_of by quiet xs) (energy_of by loud xs) (most by quiet ws) (least by loud ws) some
      (ltb-true _ _ apart)
      (squares_most level by.slack (correlation by quiet 0 ws) (correlation by quiet 12 ws) (correlation by quiet 0 xs)
      (correlation by quiet 12 xs) (correlation_near quiet 0 small.0) (correlation_near quiet 12 small.1))
      (squares_least level by.slack (correlation by loud 0 ws) (correlation by loud 12 ws) (correlation by loud 0 xs)
      (correlation by loud 12 xs) (correlation_near loud 0 large.0) (correlation_near loud 12 large.1))

-- a window near one of a tone is decided as that tone
module _ (by : Correlators) (count : ℕ) (windows : ℕ → Tone → List ℤ)
    (whole : (k : ℕ) (tone : Tone) → length (windows k tone) ≡ by.size) (clear : is_clear by count windows ≡ true) where
  pub decided : (level k : ℕ) (tone : Tone) (x : List ℤ) → 1 ≤ level → k < count → IsNear level (windows k tone) x
      → (if nat_le (energy_of by Space x) (energy_of by Mark x) then Mark else Space) ≡ tone
  decided level k Mark x some below near =
      let parts = and_parts _ _ clear in
      let slack = and_parts _ _ parts.0 in
      let apart = agree_below_at (λ j. is_louder by Mark Space (windows j Mark)) (λ _. true) count k
      (and_parts _ _ parts.1).0 below in
      let less = quieter by level (windows k Mark) x (whole k Mark) near Mark Space slack.0 slack.1 some apart in
      cond-true (nat_le (energy_of by Space x) (energy_of by Mark x)) Mark Space
      (le-leb (energy_of by Space x) (energy_of by Mark x) (omega (arith, less)))
  decided level k Space x some below near =
      let parts = and_parts _ _ clear in
      let slack = and_parts _ _ parts.0 in
      let apart = agree_below_at (λ j. is_louder by Space Mark (windows j Space)) (λ _. true) count k
      (and_parts _ _ parts.1).1 below in
      let less = quieter by level (windows k Space) x (whole k Space) near Space Mark slack.1 slack.0 some apart in
      cond-false (nat_le (energy_of by Space x) (energy_of by Mark x)) Mark Space
      (lt-leb (energy_of by Space x) (energy_of by Mark x) less)
