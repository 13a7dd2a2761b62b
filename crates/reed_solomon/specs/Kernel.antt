-- What the decoder works with. No public clause cites it.
use Rattle.std.specs.Prelude.{◌≡◌, ℕ, zero, suc, ◌+◌, ◌*◌, ◌==◌, ◌<◌, ◌≤◌, ◌≢◌, Bool, false, List, [], ◌∷◌, length, map}
use Rattle.std.specs.Prelude.{if◌then◌else◌, slice_index, slice_index_or, bit_xor, All}
use Rattle.reed_solomon.specs.Values.{value_at, Vanishes}
use Rattle.reed_solomon.specs.Erasures.{count_true}
use Rattle.reed_solomon.specs.Product.{product}
use Rattle.reed_solomon.specs.Register.{added}

-- the sum of the products of two lists, place by place, as far as both go
unfoldable pub dot : List ℕ → List ℕ → ℕ
dot [] ys = 0
dot (x ∷ xs) [] = 0
dot (x ∷ xs) (y ∷ ys) = bit_xor (product x y) (dot xs ys)

-- the values of a list at `count` powers from power(first) on, that of the last one first
unfoldable pub values_down : List ℕ → ℕ → ℕ → List ℕ
values_down p first zero = []
values_down p first (suc n) = value_at (first + n) p ∷ values_down p first n

-- the octet of a list that has so many others after it
unfoldable pub octet_before : ℕ → List ℕ → ℕ
octet_before k [] = 0
octet_before k (x ∷ xs) = if k == length xs then x else octet_before k xs

-- row k
abbrev pub row : List (List ℕ) → ℕ → List ℕ
row rows k = slice_index_or rows k []

-- Each of the first rows is 1 at a place of its own, below `width`, where the other ones are 0.
abbrev pub IsBasis : ℕ → List (List ℕ) → ℕ → Type 0
IsBasis width rows left = (k : ℕ) → k < left → (u : ℕ) × (u < width) × (slice_index (row rows k) u ≡ 1)
    × ((m : ℕ) → m < left → m ≢ k → slice_index (row rows m) u ≡ 0)

-- each of the first rows meets an equation
abbrev pub Meet : List (List ℕ) → ℕ → List ℕ → Type 0
Meet rows left equation = (k : ℕ) → k < left → dot (row rows k) equation ≡ 0

-- A multiple of a row: what is 0 stays 0, at a place and in an equation.
pub record IsMultiple (old new : List ℕ) : Type 0 where
  pub at : (u : ℕ) → slice_index old u ≡ 0 → slice_index new u ≡ 0
  pub in_equation : (other : List ℕ) → All (λ x. x < 256) other → dot old other ≡ 0 → dot new other ≡ 0

-- A row with a multiple of the pivot added: where the pivot is 0, at a place or in an equation, nothing changes.
pub record AddsMultiple (pivot old new : List ℕ) : Type 0 where
  pub at : (u : ℕ) → slice_index pivot u ≡ 0 → slice_index new u ≡ slice_index old u
  pub in_equation : (other : List ℕ) → All (λ x. x < 256) other → dot pivot other ≡ 0 → dot new other ≡ dot old other

-- each octet of a word times the value of a list at the octet's own point, power(k) if k others follow it
abbrev pub scaled : List ℕ → List ℕ → List ℕ
scaled l [] = []
scaled l (x ∷ xs) = product x (value_at (length xs) l) ∷ scaled l xs

-- How many octets of a list are not 0 and not flagged. The flag of an octet stands at the place that counts the octets
-- after it.
unfoldable pub weight_outside : List Bool → List ℕ → ℕ
weight_outside flags [] = 0
weight_outside flags (x ∷ xs) =
    (if slice_index_or flags (length xs) false then 0 else (if x == 0 then 0 else 1)) + weight_outside flags xs

-- 1 for each unknown octet of a word, and 0 for each known one
abbrev pub marks : List Bool → List ℕ
marks unknown = map (λ flag. if flag then 1 else 0) unknown

-- A word with unknown octets that is wrong, elsewhere, in at most half as many octets as roots are left if one is spent
-- on each unknown octet: v is the right one.
pub record IsWrong (first count : ℕ) (unknown : List Bool) (word v : List ℕ) : Type 0 where
  pub octets : All (λ x. x < 256) v
  pub size : length v ≡ length word
  pub vanishes : Vanishes first count v
  pub near : count_true unknown + 2 * weight_outside unknown (added word v) ≤ count
