-- Numbers that rise stay so when some are left out, when one is added, and when they are counted from further on.
use Rattle.std.proofs.Common.{ℕ, ◌+◌, ◌-◌, ◌<◌, ◌≤◌, ◌≡◌, Bool, true, false, nat_lt, nat_le, List, [], ◌∷◌, ◌++◌, length}
use Rattle.std.proofs.Common.{filter, map, drop, if◌then◌else◌, refl, subst, arith}
use Rattle.std.proofs.lemmas.Bool.{ltb-true, leb-true}
use Rattle.selective_reject.specs.Again.{RisesBelow, with_number, numbers_from}

-- there are no more of them than there is room
pub rises_length : (low high : ℕ) (numbers : List ℕ) → RisesBelow low high numbers → low + length numbers ≤ high
rises_length low high [] rises = omega (arith, rises)
rises_length low high (n ∷ numbers) rises =
    let rest = rises_length (n + 1) high numbers rises.1 in omega (arith, rises.0, rest)

-- from a lower number on
pub rises_lower : (low lower high : ℕ) (numbers : List ℕ) → lower ≤ low → RisesBelow low high numbers
    → RisesBelow lower high numbers
rises_lower low lower high [] less rises = omega (arith, less, rises)
rises_lower low lower high (n ∷ numbers) less rises = (omega (arith, less, rises.0), rises.1)

kept : (b : Bool) (low high n : ℕ) (rest : List ℕ) → low ≤ n → RisesBelow (n + 1) high rest
    → RisesBelow low high (if b then n ∷ rest else rest)
kept true low high n rest less rises = (less, rises)
kept false low high n rest less rises = rises_lower (n + 1) low high rest (omega (arith, less)) rises

-- some are left out
pub rises_filter : (p : ℕ → Bool) (low high : ℕ) (numbers : List ℕ) → RisesBelow low high numbers
    → RisesBelow low high (filter p numbers)
rises_filter p low high [] rises = rises
rises_filter p low high (n ∷ numbers) rises =
    kept (p n) low high n (filter p numbers) rises.0 (rises_filter p (n + 1) high numbers rises.1)

first_below : (b : Bool) (low high n : ℕ) (rest : List ℕ) → low ≤ n → (b ≡ true → RisesBelow (n + 1) high rest)
    → RisesBelow low high rest → RisesBelow low high (if b then n ∷ rest else rest)
first_below true low high n rest less rises else_rises = (less, rises refl)
first_below false low high n rest less rises else_rises = else_rises

-- those below a number
pub rises_below : (low high most : ℕ) (numbers : List ℕ) → RisesBelow low high numbers → low ≤ most
    → RisesBelow low most (filter (λ m. nat_lt m most) numbers)
rises_below low high most [] rises less = less
rises_below low high most (n ∷ numbers) rises less =
    first_below (nat_lt n most) low most n (filter (λ m. nat_lt m most) numbers) rises.0
    (λ is. rises_below (n + 1) high most numbers rises.1 (let under = ltb-true n most is in omega (arith, under)))
    (rises_below low high most numbers (rises_lower (n + 1) low high numbers (omega (arith, rises.0)) rises.1) less)

first_above : (b : Bool) (least high n : ℕ) (rest : List ℕ) → (b ≡ true → least ≤ n) → RisesBelow (n + 1) high rest
    → RisesBelow least high rest → RisesBelow least high (if b then n ∷ rest else rest)
first_above true least high n rest over rises else_rises = (over refl, rises)
first_above false least high n rest over rises else_rises = else_rises

-- those above a number
pub rises_above : (low high number : ℕ) (numbers : List ℕ) → RisesBelow low high numbers → number < high
    → RisesBelow (number + 1) high (filter (nat_lt number) numbers)
rises_above low high number [] rises less = omega (arith, less)
rises_above low high number (n ∷ numbers) rises less =
    first_above (nat_lt number n) (number + 1) high n (filter (nat_lt number) numbers)
    (λ is. let over = ltb-true number n is in omega (arith, over))
    (rises_filter (nat_lt number) (n + 1) high numbers rises.1) (rises_above (n + 1) high number numbers rises.1 less)

joined : (low high n : ℕ) (below above : List ℕ) → RisesBelow low n below → RisesBelow (n + 1) high above
    → RisesBelow low high (below ++ n ∷ above)
joined low high n [] above rises over = (rises, over)
joined low high n (m ∷ below) above rises over = (rises.0, joined (m + 1) high n below above rises.1 over)

-- one more
pub rises_with : (high n : ℕ) (numbers : List ℕ) → n < high → RisesBelow 0 high numbers
    → RisesBelow 0 high (with_number n numbers)
rises_with high n numbers less rises =
    joined 0 high n (filter (λ m. nat_lt m n) numbers) (filter (nat_lt n) numbers)
    (rises_below 0 high n numbers rises (omega arith)) (rises_above 0 high n numbers rises less)

counted : (b : Bool) (count low high n : ℕ) (rest : List ℕ) → low ≤ n → (b ≡ true → count ≤ n)
    → RisesBelow (n + 1 - count) high (map (λ m. m - count) rest)
    → RisesBelow (low - count) high (map (λ m. m - count) (if b then n ∷ rest else rest))
counted true count low high n rest less over rises =
    let from = over refl in
    let same : n + 1 - count ≡ n - count + 1 = omega (arith, from) in
    (omega (arith, less), subst (λ t. RisesBelow t high (map (λ m. m - count) rest)) same rises)
counted false count low high n rest less over rises =
    rises_lower (n + 1 - count) (low - count) high (map (λ m. m - count) rest) (omega (arith, less)) rises

-- from further on
pub rises_from : (count low high : ℕ) (numbers : List ℕ) → RisesBelow low high numbers
    → RisesBelow (low - count) high (numbers_from count numbers)
rises_from count low high [] rises = omega (arith, rises)
rises_from count low high (n ∷ numbers) rises =
    counted (nat_le count n) count low high n (filter (nat_le count) numbers) rises.0 (leb-true count n)
    (rises_from count (n + 1) high numbers rises.1)

-- without the first
pub rises_rest : (low high : ℕ) (numbers : List ℕ) → RisesBelow low high numbers
    → RisesBelow low high (drop 1 numbers)
rises_rest low high [] rises = rises
rises_rest low high (n ∷ numbers) rises =
    rises_lower (n + 1) low high numbers (omega (arith, rises.0)) rises.1

-- so many find room
pub room_below : (high n : ℕ) (numbers : List ℕ) → RisesBelow 0 high numbers
    → length (filter (λ m. nat_lt m n) numbers) ≤ n
room_below high n numbers rises =
    let most = rises_length 0 n (filter (λ m. nat_lt m n) numbers) (rises_below 0 high n numbers rises (omega arith)) in
    omega (arith, most)

pub room_with : (high n : ℕ) (numbers : List ℕ) → n < high → RisesBelow 0 high numbers
    → length (filter (λ m. nat_lt m n) numbers) + 1 + length (filter (nat_lt n) numbers) ≤ high
room_with high n numbers less rises =
    let first = room_below high n numbers rises in
    let rest = rises_length (n + 1) high (filter (nat_lt n) numbers) (rises_above 0 high n numbers rises less) in
    omega (arith, first, rest)
