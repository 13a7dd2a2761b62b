-- Numbers that stand next to each other, added.
use Rattle.std.specs.Prelude.{ℕ, ◌+◌, ℤ, pos, ◌+ℤ◌, ◌*ℤ◌, List, [], ◌∷◌, slice_index_or, length, unsigned_abs, ◌≡◌, ◌≤◌, sum_by, take, drop}
use Rattle.std.specs.List.{All}

-- the number at a place and the one after it
abbrev pub pair_at : List ℤ → ℕ → ℤ
pair_at xs k = slice_index_or xs k (pos 0) +ℤ slice_index_or xs (k + 1) (pos 0)

-- two lists of four numbers, in pairs
abbrev pub in_pairs : List ℤ → List ℤ → List ℤ
in_pairs xs ys = pair_at xs 0 ∷ pair_at xs 2 ∷ pair_at ys 0 ∷ pair_at ys 2 ∷ []

-- the products of a place and the one after it, in two lists
abbrev pub product_pair : List ℤ → List ℤ → ℕ → ℤ
product_pair xs ys k =
    slice_index_or xs k (pos 0) *ℤ slice_index_or ys k (pos 0)
    +ℤ slice_index_or xs (k + 1) (pos 0) *ℤ slice_index_or ys (k + 1) (pos 0)

-- the products of a window's eight samples and eight weights, in pairs
abbrev pub pairs_of_products : List ℤ → List ℤ → List ℤ
pairs_of_products window weights =
    product_pair window weights 0 ∷ product_pair window weights 2 ∷ product_pair window weights 4
    ∷ product_pair window weights 6 ∷ []

-- four numbers of at most a size
pub record AreSmall (most : ℕ) (xs : List ℤ) : Type 0 where
  pub four : length xs ≡ 4
  pub small : All (λ x. unsigned_abs x ≤ most) xs

-- eight weights of so little that the sum of the products of any samples with the first four, and with the last four,
-- is less than 2 ^ 30
pub record AreLight (weights : List ℤ) : Type 0 where
  pub each : All (λ weight. unsigned_abs weight ≤ 10000) weights
  pub front : sum_by unsigned_abs (take 4 weights) ≤ 32000
  pub back : sum_by unsigned_abs (drop 4 weights) ≤ 32000
