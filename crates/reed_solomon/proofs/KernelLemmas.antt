-- The rows of the kernel.
use Rattle.reed_solomon.proofs.Common.{◌≡◌, ℕ, zero, suc, ◌<◌, ◌≤◌, ◌≢◌, cond, eqb, bit_xor, List, [], ◌∷◌, ◌++◌}
use Rattle.reed_solomon.proofs.Common.{length, get_or, map, set, take, replicate, All, refl, ap, ◌∙◌, sym, inl, inr}
use Rattle.reed_solomon.proofs.Common.{arith, xor_zero_l, xor_zero_r, xor_self, xor_assoc, cases_eq, eq-eqb, ne_eqb}
use Rattle.reed_solomon.proofs.Common.{length-map, get_or-set_same, get_or-set_other, xor_of_8, product, added, dot}
use Rattle.reed_solomon.proofs.Common.{row, IsBasis, Meet, IsMultiple, AddsMultiple}
use Rattle.reed_solomon.proofs.FieldLemmas.{xor_pairs, product-lt, product-zero, product-xor, product_assoc}
use Rattle.reed_solomon.proofs.FieldLemmas.{product-one, xor-product}
use Rattle.reed_solomon.proofs.DistanceLemmas.{octets_of_all}
use Rattle.reed_solomon.proofs.ValueLemmas.{Octets, Octets-product, get_or-added}

pub dot-lt : (xs ys : List ℕ) → Octets ys → dot xs ys < 256
unfolding dot
dot-lt [] ys octets = omega arith
dot-lt (x ∷ xs) [] octets = omega arith
dot-lt (x ∷ xs) (y ∷ ys) octets = xor_of_8 (product x y) (dot xs ys) (product-lt x y octets.0) (dot-lt xs ys octets.1)

pub dot-added : (xs ys zs : List ℕ) → length xs ≡ length ys → Octets xs → Octets ys → Octets zs
    → dot (added xs ys) zs ≡ bit_xor (dot xs zs) (dot ys zs)
unfolding dot
dot-added [] [] zs same left right octets = refl
dot-added [] (y ∷ ys) zs same left right octets = absurd (omega arith)
dot-added (x ∷ xs) [] zs same left right octets = absurd (omega arith)
dot-added (x ∷ xs) (y ∷ ys) [] same left right octets = refl
dot-added (x ∷ xs) (y ∷ ys) (z ∷ zs) same left right octets =
    ap (λ n. bit_xor n (dot (added xs ys) zs)) (xor-product x y z left.0 right.0 octets.0)
    ∙ ap (bit_xor (bit_xor (product x z) (product y z))) (dot-added xs ys zs (omega arith) left.1 right.1 octets.1)
    ∙ xor_pairs (product x z) (product y z) (dot xs zs) (dot ys zs)

pub dot-product : (a : ℕ) (xs zs : List ℕ) → Octets xs → Octets zs → dot (map (product a) xs) zs ≡ product a (dot xs zs)
unfolding dot
dot-product a [] zs xs_octets octets = sym (product-zero a)
dot-product a (x ∷ xs) [] xs_octets octets = sym (product-zero a)
dot-product a (x ∷ xs) (z ∷ zs) xs_octets octets =
    ap (λ n. bit_xor n (dot (map (product a) xs) zs)) (product_assoc a x z xs_octets.0 octets.0)
    ∙ ap (bit_xor (product a (product x z))) (dot-product a xs zs xs_octets.1 octets.1)
    ∙ sym (product-xor a (product x z) (dot xs zs) (product-lt x z octets.0) (dot-lt xs zs octets.1))

dot_nil : (xs : List ℕ) → 0 ≡ dot xs []
unfolding dot
dot_nil [] = refl
dot_nil (x ∷ xs) = refl

-- only as many coefficients count as the other list has
pub dot-take : (n : ℕ) (xs zs : List ℕ) → length zs ≤ n → dot (take n xs) zs ≡ dot xs zs
unfolding dot
dot-take zero xs [] within = dot_nil xs
dot-take zero xs (z ∷ zs) within = absurd (omega arith)
dot-take (suc n) [] zs within = refl
dot-take (suc n) (x ∷ xs) [] within = refl
dot-take (suc n) (x ∷ xs) (z ∷ zs) within = ap (bit_xor (product x z)) (dot-take n xs zs (omega arith))

pub dot-push : (xs zs : List ℕ) (n x z : ℕ) → length xs ≡ n → length zs ≡ n
    → dot (xs ++ x ∷ []) (zs ++ z ∷ []) ≡ bit_xor (dot xs zs) (product x z)
unfolding dot
dot-push [] [] n x z left right = xor_zero_r (product x z) ∙ sym (xor_zero_l (product x z))
dot-push [] (y ∷ zs) n x z left right = absurd (omega arith)
dot-push (y ∷ xs) [] n x z left right = absurd (omega arith)
dot-push (y ∷ xs) (w ∷ zs) n x z left right =
    ap (bit_xor (product y w)) (dot-push xs zs (length xs) x z refl (omega arith))
    ∙ sym (xor_assoc (product y w) (dot xs zs) (product x z))

pub added-zeros : (n : ℕ) (ys : List ℕ) → length ys ≡ n → added (replicate n 0) ys ≡ ys
added-zeros zero [] size = refl
added-zeros zero (y ∷ ys) size = absurd (omega arith)
added-zeros (suc n) [] size = absurd (omega arith)
added-zeros (suc n) (y ∷ ys) size = ap (λ z. z ∷ added (replicate n 0) ys) (xor_zero_l y)
    ∙ ap (λ zs. y ∷ zs) (added-zeros n ys (omega arith))

get_or-map_zero : (a : ℕ) (xs : List ℕ) (u : ℕ) → get_or xs u 0 ≡ 0 → get_or (map (product a) xs) u 0 ≡ 0
get_or-map_zero a [] u none = refl
get_or-map_zero a (x ∷ xs) zero none = ap (product a) none ∙ product-zero a
get_or-map_zero a (x ∷ xs) (suc u) none = get_or-map_zero a xs u none

-- ---- one equation more

-- which of the old rows a row comes from: the last one takes the pivot's place
abbrev pub source : ℕ → ℕ → ℕ → ℕ
source k last m = cond (eqb m k) last m

pub source-here : (k last m : ℕ) → m ≡ k → source k last m ≡ last
source-here k last m here = ap (λ t. cond t last m) (eq-eqb m k here)

pub source-other : (k last m : ℕ) → m ≢ k → source k last m ≡ m
source-other k last m other = ap (λ t. cond t last m) (ne_eqb m k other)

pub source-lt : (k last m : ℕ) → m < last → source k last m < suc last
source-lt k last m below =
    elim (cases_eq m k) [
      | inl here ↦ omega (arith, source-here k last m here)
      | inr other ↦ omega (arith, source-other k last m other)
    ]

source-other_than : (k last m : ℕ) → m < last → source k last m ≢ k
source-other_than k last m below =
    elim (cases_eq m k) [
      | inl here ↦ λ e. absurd (omega (arith, e, source-here k last m here))
      | inr other ↦ λ e. other (sym (source-other k last m other) ∙ e)
    ]

source-apart : (k last m n : ℕ) → m < last → n < last → m ≢ n → source k last m ≢ source k last n
source-apart k last m n m_below n_below apart =
    elim (cases_eq m k) [
      | inl m_here ↦
          elim (cases_eq n k) [
            | inl n_here ↦ absurd (apart (m_here ∙ sym n_here))
            | inr n_other ↦ λ e. absurd (omega (arith, e, source-here k last m m_here, source-other k last n n_other))
          ]
      | inr m_other ↦
          elim (cases_eq n k) [
            | inl n_here ↦ λ e. absurd (omega (arith, e, source-other k last m m_other, source-here k last n n_here))
            | inr n_other ↦ λ e. apart (sym (source-other k last m m_other) ∙ e ∙ source-other k last n n_other)
          ]
    ]

-- the rows once the last one has taken the pivot's place
pub row-set : (rows : List (List ℕ)) (k last m : ℕ) → k < length rows
    → row (set rows k (row rows last)) m ≡ row rows (source k last m)
row-set rows k last m inside =
    elim (cases_eq m k) [
      | inl here ↦
          ap (λ n. row (set rows k (row rows last)) n) here ∙ get_or-set_same rows k (row rows last) [] inside
          ∙ ap (row rows) (sym (source-here k last m here))
      | inr other ↦
          get_or-set_other rows k m (row rows last) [] other ∙ ap (row rows) (sym (source-other k last m other))
    ]

-- The rows but the pivot, each with a multiple of it with which it meets the equation.
pub record Cleared (old new : List (List ℕ)) (k last : ℕ) (pivot equation : List ℕ) : Type 0 where
  pub pivot_index : k < suc last
  pub multiple : IsMultiple (row old k) pivot
  pub rows : (m : ℕ) → m < last → AddsMultiple pivot (row old (source k last m)) (row new m)

module _ {old new : List (List ℕ)} {k last : ℕ} {pivot equation : List ℕ}
    (cleared : Cleared old new k last pivot equation) where
  pub cleared-stays : (other : List ℕ) → All (λ x. x < 256) other → Meet old (suc last) other → Meet new last other
  cleared-stays other octets met = λ m below.
      (cleared.rows m below).in_equation other octets (cleared.multiple.in_equation other octets
      (met k cleared.pivot_index)) ∙ met (source k last m) (source-lt k last m below)

  pub cleared-basis : (width : ℕ) → IsBasis width old (suc last) → IsBasis width new last
  cleared-basis width basis = λ m below.
      let own = basis (source k last m) (source-lt k last m below) in
      let others = own.3 in
      let pivot_zero = cleared.multiple.at own.0
      (others k cleared.pivot_index (λ e. source-other_than k last m below (sym e))) in (
        own.0,
        own.1,
        (cleared.rows m below).at own.0 pivot_zero ∙ own.2,
        λ n n_below apart. (cleared.rows n n_below).at own.0 pivot_zero
            ∙ others (source k last n) (source-lt k last n n_below) (source-apart k last n m n_below below apart),
      )

-- ---- what the functions on rows do

pub is_multiple : (a : ℕ) (xs : List ℕ) → Octets xs → IsMultiple xs (map (product a) xs)
is_multiple a xs octets = record {
  at = get_or-map_zero a xs;
  in_equation = λ other all none. dot-product a xs other octets (octets_of_all other all) ∙ ap (product a) none
      ∙ product-zero a;
}

pub adds_multiple : (a : ℕ) (pivot xs : List ℕ) → length xs ≡ length pivot → Octets pivot → Octets xs
    → AddsMultiple pivot xs (added xs (map (product a) pivot))
adds_multiple a pivot xs same pivot_octets octets =
    let multiple = map (product a) pivot in
    let sizes : length xs ≡ length multiple = same ∙ sym (length-map pivot (product a)) in
    record {
      at = λ u none. get_or-added xs multiple u sizes
          ∙ ap (bit_xor (get_or xs u 0)) (get_or-map_zero a pivot u none) ∙ xor_zero_r (get_or xs u 0);
      in_equation = λ other all none.
          let other_octets = octets_of_all other all in
          dot-added xs multiple other sizes octets (Octets-product a pivot pivot_octets) other_octets
          ∙ ap (bit_xor (dot xs other)) (dot-product a pivot other pivot_octets other_octets ∙ ap (product a) none
          ∙ product-zero a) ∙ xor_zero_r (dot xs other);
    }

-- the multiple that makes a row meet an equation
pub meets_by_multiple : (pivot xs equation : List ℕ) → length xs ≡ length pivot → Octets pivot → Octets xs
    → Octets equation → dot pivot equation ≡ 1
    → dot (added xs (map (product (dot xs equation)) pivot)) equation ≡ 0
meets_by_multiple pivot xs equation same pivot_octets octets equation_octets one =
    let a = dot xs equation in
    dot-added xs (map (product a) pivot) equation (same ∙ sym (length-map pivot (product a))) octets
    (Octets-product a pivot pivot_octets) equation_octets
    ∙ ap (bit_xor a) (dot-product a pivot equation pivot_octets equation_octets ∙ ap (product a) one
    ∙ product-one a (dot-lt xs equation equation_octets)) ∙ xor_self a
