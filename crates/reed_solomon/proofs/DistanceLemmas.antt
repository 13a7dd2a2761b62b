-- Words that differ in few octets.
use Rattle.reed_solomon.proofs.Common.{◌≡◌, ℕ, zero, suc, ◌+◌, ◌-◌, ◌<◌, ◌≤◌, cond, eqb, bit_xor, List, [], ◌∷◌, ◌++◌}
use Rattle.reed_solomon.proofs.Common.{length, take, drop, replicate, All, refl, ap, subst, ◌∙◌, sym, inl, inr, arith}
use Rattle.reed_solomon.proofs.Common.{length-append, xor_self, cases_eq, eq-eqb, ne_eqb, length-replicate, length-take}
use Rattle.reed_solomon.proofs.Common.{length-drop, take-append-drop, take_at, drop_at, Code, Zeros, Leading, Between}
use Rattle.reed_solomon.proofs.Common.{whole_of, with_zeros, IsCodeword, IsWithinReach, distance, added, whole}
use Rattle.reed_solomon.proofs.Common.{ChecksOf, value_at, Vanishes}
use Rattle.std.proofs.lemmas.List.{get_or_default}
use Rattle.reed_solomon.proofs.FieldLemmas.{same_from_xor}
use Rattle.reed_solomon.proofs.ValueLemmas.{Octets, Octets-append, Octets-added, Octets-replicate, length-added}
use Rattle.reed_solomon.proofs.ValueLemmas.{octets_from, octet_at, value_at-added, weight}
use Rattle.reed_solomon.proofs.Vandermonde.{few_zeros}

distance-cons : (x y : ℕ) (xs ys : List ℕ) → distance (x ∷ xs) (y ∷ ys) ≡ cond (eqb x y) 0 1 + distance xs ys
unfolding distance
distance-cons x y xs ys = refl

pub distance-same : (x : ℕ) (xs ys : List ℕ) → distance (x ∷ xs) (x ∷ ys) ≡ distance xs ys
distance-same x xs ys =
    distance-cons x x xs ys ∙ ap (λ t. cond t 0 1 + distance xs ys) (eq-eqb x x refl) ∙ omega arith

pub distance-other : (x y : ℕ) (xs ys : List ℕ) → (x ≡ y → ⊥) → distance (x ∷ xs) (y ∷ ys) ≡ suc (distance xs ys)
distance-other x y xs ys other =
    distance-cons x y xs ys ∙ ap (λ t. cond t 0 1 + distance xs ys) (ne_eqb x y other) ∙ omega arith

pub weight-zero : (xs : List ℕ) → weight (0 ∷ xs) ≡ weight xs
unfolding weight
weight-zero xs = refl

pub weight-some : (x : ℕ) (xs : List ℕ) → (x ≡ 0 → ⊥) → weight (x ∷ xs) ≡ suc (weight xs)
unfolding weight
weight-some zero xs some = absurd (some refl)
weight-some (suc x) xs some = refl

-- The sum of two lists has as many octets that are not 0 as the lists differ in.
pub weight-added : (xs ys : List ℕ) → weight (added xs ys) ≡ distance xs ys
unfolding weight distance
weight-added [] ys = refl
weight-added (x ∷ xs) [] = refl
weight-added (x ∷ xs) (y ∷ ys) =
    elim (cases_eq x y) [
      | inl same ↦
          ap (λ n. weight (n ∷ added xs ys)) (ap (bit_xor x) (sym same) ∙ xor_self x) ∙ weight-zero (added xs ys)
          ∙ weight-added xs ys ∙ sym (ap (λ n. distance (x ∷ xs) (n ∷ ys)) (sym same) ∙ distance-same x xs ys)
      | inr other ↦
          weight-some (bit_xor x y) (added xs ys) (λ none. other (same_from_xor x y none))
          ∙ ap suc (weight-added xs ys) ∙ sym (distance-other x y xs ys other)
    ]

pub same_from_distance : (xs ys : List ℕ) → length xs ≡ length ys → distance xs ys ≡ 0 → xs ≡ ys
same_from_distance [] [] size none = refl
same_from_distance [] (y ∷ ys) size none = absurd (omega arith)
same_from_distance (x ∷ xs) [] size none = absurd (omega arith)
same_from_distance (x ∷ xs) (y ∷ ys) size none =
    elim (cases_eq x y) [
      | inl same ↦
          let rest : distance xs ys ≡ 0 =
          sym (ap (λ n. distance (x ∷ xs) (n ∷ ys)) (sym same) ∙ distance-same x xs ys) ∙ none in
          ap (λ n. n ∷ xs) same ∙ ap (λ zs. y ∷ zs) (same_from_distance xs ys (omega arith) rest)
      | inr other ↦ absurd (omega (arith, distance-other x y xs ys other))
    ]

pub distance-append : (xs ys us vs : List ℕ) → length xs ≡ length us
    → distance (xs ++ ys) (us ++ vs) ≡ distance xs us + distance ys vs
unfolding distance
distance-append [] ys [] vs size = omega arith
distance-append [] ys (u ∷ us) vs size = absurd (omega arith)
distance-append (x ∷ xs) ys [] vs size = absurd (omega arith)
distance-append (x ∷ xs) ys (u ∷ us) vs size =
    let rest = distance-append xs ys us vs (omega arith) in
    let head = λ (ps qs : List ℕ). distance-cons x u ps qs in
    omega (arith, rest, head (xs ++ ys) (us ++ vs), head xs us)

distance_nil : distance [] [] ≡ 0
unfolding distance
distance_nil = refl

pub distance-push : (xs ys : List ℕ) (x y : ℕ) → length xs ≡ length ys
    → distance (xs ++ x ∷ []) (ys ++ y ∷ []) ≡ distance xs ys + cond (eqb x y) 0 1
distance-push xs ys x y size =
    distance-append xs (x ∷ []) ys (y ∷ []) size
    ∙ ap (λ n. distance xs ys + n) (distance-cons x y [] [] ∙ ap (λ n. cond (eqb x y) 0 1 + n) distance_nil
    ∙ omega arith)

pub distance-refl : (xs : List ℕ) → distance xs xs ≡ 0
unfolding distance
distance-refl [] = refl
distance-refl (x ∷ xs) = distance-same x xs xs ∙ distance-refl xs

pub distance-le : (xs ys : List ℕ) → distance xs ys ≤ length ys
unfolding distance
distance-le [] ys = omega arith
distance-le (x ∷ xs) [] = omega arith
distance-le (x ∷ xs) (y ∷ ys) =
    elim (cases_eq x y) [
      | inl same ↦
          let rest = ap (λ n. distance (x ∷ xs) (n ∷ ys)) (sym same) ∙ distance-same x xs ys in
          omega (arith, rest, distance-le xs ys)
      | inr other ↦ omega (arith, distance-other x y xs ys other, distance-le xs ys)
    ]

-- Two lists with as many zeros in a row as octets in which they differ are one.
pub one_list : (first count : ℕ) (xs ys : List ℕ) → length xs ≡ length ys → length xs ≤ 255 → Octets xs → Octets ys
    → Vanishes first count xs → Vanishes first count ys → distance xs ys ≤ count → distance xs ys ≡ 0
one_list first count xs ys size short xs_octets ys_octets xs_zero ys_zero near =
    sym (weight-added xs ys)
    ∙ few_zeros count (added xs ys) first (Octets-added xs ys xs_octets ys_octets)
    (omega (arith, length-added xs ys size)) (omega (arith, weight-added xs ys)) (λ j from below.
    value_at-added j xs ys size xs_octets ys_octets ∙ ap (λ n. bit_xor n (value_at j ys)) (xs_zero j from below)
    ∙ ap (bit_xor 0) (ys_zero j from below))

-- ---- with the zeros of a shortened code

pub length-with_zeros : (zeros : Zeros) (n : ℕ) (xs : List ℕ) → length (with_zeros zeros n xs) ≡ n + length xs
length-with_zeros Leading n xs = omega (arith, length-append (replicate n 0) xs, length-replicate {A = ℕ} n 0)
length-with_zeros Between n xs = omega (arith, length-append xs (replicate n 0), length-replicate {A = ℕ} n 0)

Octets-with_zeros : (zeros : Zeros) (n : ℕ) (xs : List ℕ) → Octets xs → Octets (with_zeros zeros n xs)
Octets-with_zeros Leading n xs octets = Octets-append (replicate n 0) xs (Octets-replicate n) octets
Octets-with_zeros Between n xs octets = Octets-append xs (replicate n 0) octets (Octets-replicate n)

distance-with_zeros : (zeros : Zeros) (n : ℕ) (xs ys : List ℕ) → length xs ≡ length ys
    → distance (with_zeros zeros n xs) (with_zeros zeros n ys) ≡ distance xs ys
distance-with_zeros Leading n xs ys size =
    omega (arith, distance-append (replicate n 0) xs (replicate n 0) ys refl, distance-refl (replicate n 0))
distance-with_zeros Between n xs ys size =
    omega (arith, distance-append xs (replicate n 0) ys (replicate n 0) size, distance-refl (replicate n 0))

pub length-whole : (code : Code) (xs check : List ℕ) → length xs + code.check_count ≤ 255
    → length check ≡ code.check_count → length (whole code xs check) ≡ 255
unfolding whole_of
length-whole code xs check short size =
    let n = 255 - code.check_count - length xs in
    omega (arith, length-append (with_zeros code.zeros n xs) check, length-with_zeros code.zeros n xs)

pub Octets-whole : (code : Code) (xs check : List ℕ) → Octets xs → Octets check → Octets (whole code xs check)
unfolding whole_of
Octets-whole code xs check xs_octets octets =
    let n = 255 - code.check_count - length xs in
    Octets-append (with_zeros code.zeros n xs) check (Octets-with_zeros code.zeros n xs xs_octets) octets

pub distance-whole : (code : Code) (xs ys check other : List ℕ) → length xs ≡ length ys
    → distance (whole code xs check) (whole code ys other) ≡ distance xs ys + distance check other
unfolding whole_of
distance-whole code xs ys check other size =
    let n = 255 - code.check_count - length xs in
    let m = 255 - code.check_count - length ys in
    let same : m ≡ n = omega arith in
    let sizes : length (with_zeros code.zeros n xs) ≡ length (with_zeros code.zeros n ys) =
    omega (arith, length-with_zeros code.zeros n xs, length-with_zeros code.zeros n ys) in
    ap (λ k. distance (with_zeros code.zeros n xs ++ check) (with_zeros code.zeros k ys ++ other)) same
    ∙ distance-append (with_zeros code.zeros n xs) check (with_zeros code.zeros n ys) other sizes
    ∙ ap (λ k. k + distance check other) (distance-with_zeros code.zeros n xs ys size)

-- data and check octets that are a codeword each
pub apart : (code : Code) (xs ys check other : List ℕ) → Octets xs → Octets ys → Octets check → Octets other
    → length xs ≡ length ys → length xs + code.check_count ≤ 255 → length check ≡ code.check_count
    → length other ≡ code.check_count → ChecksOf code xs check → ChecksOf code ys other
    → distance xs ys + distance check other ≤ code.check_count → distance xs ys + distance check other ≡ 0
apart code xs ys check other xs_octets ys_octets check_octets other_octets size short check_size other_size is other_is
    near =
    let law = distance-whole code xs ys check other size in
    sym law ∙ one_list code.first_root code.check_count (whole code xs check) (whole code ys other)
    (length-whole code xs check short check_size ∙ sym (length-whole code ys other (omega arith) other_size))
    (omega (arith, length-whole code xs check short check_size)) (Octets-whole code xs check xs_octets check_octets)
    (Octets-whole code ys other ys_octets other_octets) is other_is (omega arith)

pub all_of_octets : (xs : List ℕ) → Octets xs → All (λ x. x < 256) xs
all_of_octets xs octets = λ k d below.
    let P : ℕ → Type 0 = λ n. n < 256 in
    subst P (get_or_default xs k 0 d below) (octet_at xs k octets)

pub octets_of_all : (xs : List ℕ) → All (λ x. x < 256) xs → Octets xs
octets_of_all xs all = octets_from xs (λ k below. all k 0 below)

pub Octets-take : (n : ℕ) (xs : List ℕ) → Octets xs → Octets (take n xs)
Octets-take zero xs octets = tt
Octets-take (suc n) [] octets = tt
Octets-take (suc n) (x ∷ xs) octets = (octets.0, Octets-take n xs octets.1)

pub Octets-drop : (n : ℕ) (xs : List ℕ) → Octets xs → Octets (drop n xs)
Octets-drop zero xs octets = octets
Octets-drop (suc n) [] octets = tt
Octets-drop (suc n) (x ∷ xs) octets = Octets-drop n xs octets.1

pub codewords_apart : (code : Code) (u v : List ℕ) → Octets u → Octets v → length u ≡ length v
    → code.check_count ≤ length u → length u ≤ 255 → IsCodeword code u → IsCodeword code v
    → distance u v ≤ code.check_count → u ≡ v
codewords_apart code u v u_octets v_octets size long short u_is v_is near =
    let n = length u - code.check_count in
    let m = length v - code.check_count in
    let same : n ≡ m = omega arith in
    let split = ap (λ xs. distance xs v) (sym (take-append-drop n u))
    ∙ ap (distance (take n u ++ drop n u)) (sym (take-append-drop m v))
    ∙ distance-append (take n u) (drop n u) (take m v) (drop m v)
    (omega (arith, length-take n u, length-take m v)) in
    let none = apart code (take n u) (take m v) (drop n u) (drop m v) (Octets-take n u u_octets)
    (Octets-take m v v_octets) (Octets-drop n u u_octets) (Octets-drop m v v_octets)
    (omega (arith, length-take n u, length-take m v)) (omega (arith, length-take n u)) (omega (arith, length-drop n u))
    (omega (arith, length-drop m v)) u_is v_is (omega arith) in
    same_from_distance u v size (split ∙ none)

-- data and check octets as one word
pub codeword_parts : (code : Code) (P : List ℕ → List ℕ → Type 0) (xs check : List ℕ) → length check ≡ code.check_count
    → let n = length (xs ++ check) - code.check_count in
    (P (take n (xs ++ check)) (drop n (xs ++ check)) → P xs check) × (P xs check
    → P (take n (xs ++ check)) (drop n (xs ++ check)))
codeword_parts code P xs check size =
    let n = length (xs ++ check) - code.check_count in
    let place : length xs ≡ n = omega (arith, length-append xs check) in
    let front = take_at xs check n place in
    let back = drop_at xs check n place in
    let Q : List ℕ → Type 0 = λ ys. P ys (drop n (xs ++ check)) in
    let R : List ℕ → Type 0 = λ ys. P xs ys in
    (λ p. subst R back (subst Q front p), λ p. subst Q (sym front) (subst R (sym back) p))

pub one_check : (code : Code) (xs check other : List ℕ) → Octets xs → Octets check → Octets other
    → length check ≡ code.check_count → length other ≡ code.check_count → length xs + code.check_count ≤ 255
    → IsCodeword code (xs ++ check) → IsCodeword code (xs ++ other) → check ≡ other
one_check code xs check other xs_octets check_octets other_octets check_size other_size short is other_is =
    let same = distance-refl xs in
    let none = apart code xs xs check other xs_octets xs_octets check_octets other_octets refl short check_size
    other_size
    ((codeword_parts code (ChecksOf code) xs check check_size).0 is)
    ((codeword_parts code (ChecksOf code) xs other other_size).0 other_is) (omega (arith, distance-le check other)) in
    same_from_distance check other (check_size ∙ sym other_size) (omega arith)

abbrev nothing : ℕ
nothing = 0

abbrev single : ℕ
single = 1

pub distance-comm : (xs ys : List ℕ) → distance xs ys ≡ distance ys xs
unfolding distance
distance-comm [] [] = refl
distance-comm [] (y ∷ ys) = refl
distance-comm (x ∷ xs) [] = refl
distance-comm (x ∷ xs) (y ∷ ys) =
    elim (cases_eq x y) [
      | inl same ↦
          ap (λ n. distance (x ∷ xs) (n ∷ ys)) (sym same) ∙ distance-same x xs ys ∙ distance-comm xs ys
          ∙ sym (distance-same x ys xs) ∙ ap (λ n. distance (n ∷ ys) (x ∷ xs)) same
      | inr other ↦
          distance-other x y xs ys other ∙ ap suc (distance-comm xs ys)
          ∙ sym (distance-other y x ys xs (λ e. other (sym e)))
    ]

-- what the first octets add
differs : ℕ → ℕ → ℕ
differs x y = cond (eqb x y) 0 1

differs-same : (x y : ℕ) → x ≡ y → differs x y ≡ 0
unfolding differs
differs-same x y same = ap (λ t. cond t nothing single) (eq-eqb x y same)

differs-other : (x y : ℕ) → (x ≡ y → ⊥) → differs x y ≡ 1
unfolding differs
differs-other x y other = ap (λ t. cond t nothing single) (ne_eqb x y other)

differs-le : (x y : ℕ) → differs x y ≤ 1
differs-le x y =
    elim (cases_eq x y) [
      | inl same ↦ omega (arith, differs-same x y same)
      | inr other ↦ omega (arith, differs-other x y other)
    ]

distance-differs : (x y : ℕ) (xs ys : List ℕ) → distance (x ∷ xs) (y ∷ ys) ≡ differs x y + distance xs ys
unfolding differs
distance-differs x y xs ys = distance-cons x y xs ys

-- The way over another list is no shorter.
pub distance-triangle : (xs ys zs : List ℕ) → length xs ≡ length ys → length ys ≡ length zs
    → distance xs zs ≤ distance xs ys + distance ys zs
distance-triangle [] [] [] first second = omega (arith, distance_nil)
distance-triangle [] [] (z ∷ zs) first second = absurd (omega arith)
distance-triangle [] (y ∷ ys) zs first second = absurd (omega arith)
distance-triangle (x ∷ xs) [] zs first second = absurd (omega arith)
distance-triangle (x ∷ xs) (y ∷ ys) [] first second = absurd (omega arith)
distance-triangle (x ∷ xs) (y ∷ ys) (z ∷ zs) first second =
    let rest = distance-triangle xs ys zs (omega arith) (omega arith) in
    let a = distance-differs x y xs ys in
    let b = distance-differs y z ys zs in
    let c = distance-differs x z xs zs in
    elim (cases_eq x y) [
      | inl same ↦
          elim (cases_eq y z) [
            | inl later ↦ omega (arith, rest, a, b, c, differs-same x z (same ∙ later))
            | inr other ↦ omega (arith, rest, a, b, c, differs-le x z, differs-other y z other)
          ]
      | inr other ↦ omega (arith, rest, a, b, c, differs-le x z, differs-other x y other)
    ]

-- One codeword at most is within reach of a word.
pub one_within_reach : (code : Code) (word u v : List ℕ) → code.check_count ≤ length word → length word ≤ 255
    → IsWithinReach code word u → IsWithinReach code word v → u ≡ v
one_within_reach code word u v least most u_within v_within =
    codewords_apart code u v (octets_of_all u u_within.octets) (octets_of_all v v_within.octets)
    (u_within.size ∙ sym v_within.size) (omega (arith, u_within.size)) (omega (arith, u_within.size))
    u_within.codeword v_within.codeword
    (omega (
      arith,
      distance-triangle u word v u_within.size (sym v_within.size),
      distance-comm u word,
      u_within.near,
      v_within.near,
    ))
