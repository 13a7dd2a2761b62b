-- Words with unknown octets, as they are sent and whole.
use Rattle.reed_solomon.proofs.Common.{◌≡◌, ℕ, zero, suc, ◌+◌, ◌-◌, ◌*◌, ◌<◌, ◌≤◌, Bool, true, false, cond, eqb}
use Rattle.reed_solomon.proofs.Common.{bit_xor, List, [], ◌∷◌, ◌++◌, length, get_or, take, drop, map, replicate, All}
use Rattle.reed_solomon.proofs.Common.{refl, ap, subst, ◌∙◌, sym, inl, inr, arith, xor_self, cases_Bool, cases_eq}
use Rattle.reed_solomon.proofs.Common.{eq-eqb, length-append, length-map, length-replicate, length-take, length-drop}
use Rattle.reed_solomon.proofs.Common.{take_all, take-append-drop, Code, Zeros, Leading, Between, with_zeros, whole_of}
use Rattle.reed_solomon.proofs.Common.{IsCodeword, IsWithinReach, IsWithinReachOutside, IsWrong, distance}
use Rattle.reed_solomon.proofs.Common.{distance_outside, blanked, count_true, marks, added, whole, weight_outside}
use Rattle.reed_solomon.proofs.DistanceLemmas.{distance-same, distance-other, distance-refl, distance-comm}
use Rattle.reed_solomon.proofs.DistanceLemmas.{distance-triangle, codewords_apart, octets_of_all, all_of_octets}
use Rattle.reed_solomon.proofs.DistanceLemmas.{Octets-take, Octets-drop, Octets-whole, length-with_zeros}
use Rattle.reed_solomon.proofs.RootLemmas.{count_true_more, count_true_nil}
use Rattle.reed_solomon.proofs.ScaledLemmas.{weight_outside-cons}
use Rattle.reed_solomon.proofs.ValueLemmas.{length-added}
use Rattle.reed_solomon.proofs.WordLemmas.{long, data_part, check_part, length-long, length-data_part, distance-long}
use Rattle.reed_solomon.proofs.WordLemmas.{parts}

-- ---- words by marks

-- a word with 0 at each mark
abbrev masked : List ℕ → List ℕ → List ℕ
masked [] xs = xs
masked (m ∷ ms) [] = []
masked (m ∷ ms) (x ∷ xs) = cond (eqb m 1) 0 x ∷ masked ms xs

-- how many marks there are
abbrev ones : List ℕ → ℕ
ones [] = 0
ones (m ∷ ms) = cond (eqb m 1) 1 0 + ones ms

blanked-masked : (unknown : List Bool) (xs : List ℕ) → blanked unknown xs ≡ masked (marks unknown) xs
unfolding blanked
blanked-masked [] xs = refl
blanked-masked (f ∷ fs) [] = refl
blanked-masked (true ∷ fs) (x ∷ xs) = ap (λ ys. 0 ∷ ys) (blanked-masked fs xs)
blanked-masked (false ∷ fs) (x ∷ xs) = ap (λ ys. x ∷ ys) (blanked-masked fs xs)

ones-marks : (unknown : List Bool) → ones (marks unknown) ≡ count_true unknown
unfolding count_true
ones-marks [] = refl
ones-marks (true ∷ fs) = ap (λ n. 1 + n) (ones-marks fs)
ones-marks (false ∷ fs) = ap (λ n. 0 + n) (ones-marks fs)

length-masked : (ms xs : List ℕ) → length ms ≡ length xs → length (masked ms xs) ≡ length xs
length-masked [] xs same = refl
length-masked (m ∷ ms) [] same = refl
length-masked (m ∷ ms) (x ∷ xs) same = ap suc (length-masked ms xs (omega arith))

masked-append : (ms ns xs ys : List ℕ) → length ms ≡ length xs
    → masked (ms ++ ns) (xs ++ ys) ≡ masked ms xs ++ masked ns ys
masked-append [] ns [] ys same = refl
masked-append [] ns (x ∷ xs) ys same = absurd (omega arith)
masked-append (m ∷ ms) ns [] ys same = absurd (omega arith)
masked-append (m ∷ ms) ns (x ∷ xs) ys same = ap (λ zs. cond (eqb m 1) 0 x ∷ zs)
    (masked-append ms ns xs ys (omega arith))

masked-zeros : (n : ℕ) → masked (replicate n 0) (replicate n 0) ≡ replicate n 0
masked-zeros zero = refl
masked-zeros (suc n) = ap (λ zs. 0 ∷ zs) (masked-zeros n)

masked-take : (n : ℕ) (ms xs : List ℕ) → masked (take n ms) (take n xs) ≡ take n (masked ms xs)
masked-take zero ms xs = refl
masked-take (suc n) [] xs = refl
masked-take (suc n) (m ∷ ms) [] = refl
masked-take (suc n) (m ∷ ms) (x ∷ xs) = ap (λ zs. cond (eqb m 1) 0 x ∷ zs) (masked-take n ms xs)

masked_nothing : (ms : List ℕ) → masked ms [] ≡ []
masked_nothing [] = refl
masked_nothing (m ∷ ms) = refl

masked-drop : (n : ℕ) (ms xs : List ℕ) → masked (drop n ms) (drop n xs) ≡ drop n (masked ms xs)
masked-drop zero ms xs = refl
masked-drop (suc n) [] xs = refl
masked-drop (suc n) (m ∷ ms) [] = masked_nothing (drop n ms)
masked-drop (suc n) (m ∷ ms) (x ∷ xs) = masked-drop n ms xs

ones-append : (ms ns : List ℕ) → ones (ms ++ ns) ≡ ones ms + ones ns
ones-append [] ns = omega arith
ones-append (m ∷ ms) ns = omega (arith, ones-append ms ns)

ones-zeros : (n : ℕ) → ones (replicate n 0) ≡ 0
ones-zeros zero = refl
ones-zeros (suc n) = ap (λ k. 0 + k) (ones-zeros n)

-- ---- with the zeros of a shortened code

masked-with_zeros : (zeros : Zeros) (n : ℕ) (ms xs : List ℕ) → length ms ≡ length xs
    → masked (with_zeros zeros n ms) (with_zeros zeros n xs) ≡ with_zeros zeros n (masked ms xs)
masked-with_zeros Leading n ms xs same =
    masked-append (replicate n 0) ms (replicate n 0) xs refl ∙ ap (λ zs. zs ++ masked ms xs) (masked-zeros n)
masked-with_zeros Between n ms xs same =
    masked-append ms (replicate n 0) xs (replicate n 0) same ∙ ap (λ zs. masked ms xs ++ zs) (masked-zeros n)

ones-with_zeros : (zeros : Zeros) (n : ℕ) (ms : List ℕ) → ones (with_zeros zeros n ms) ≡ ones ms
ones-with_zeros Leading n ms = omega (arith, ones-append (replicate n 0) ms, ones-zeros n)
ones-with_zeros Between n ms = omega (arith, ones-append ms (replicate n 0), ones-zeros n)

masked-whole : (code : Code) (ms ns xs check : List ℕ) → length ms ≡ length xs
    → masked (whole code ms ns) (whole code xs check) ≡ whole code (masked ms xs) (masked ns check)
unfolding whole_of
masked-whole code ms ns xs check same =
    let zeros = code.zeros in
    let n = 255 - code.check_count - length xs in
    let first : 255 - code.check_count - length ms ≡ n = omega arith in
    let last : n ≡ 255 - code.check_count - length (masked ms xs) = omega (arith, length-masked ms xs same) in
    let sizes : length (with_zeros zeros n ms) ≡ length (with_zeros zeros n xs) =
    omega (arith, length-with_zeros zeros n ms, length-with_zeros zeros n xs) in
    ap (λ k. masked (with_zeros zeros k ms ++ ns) (with_zeros zeros n xs ++ check)) first
    ∙ masked-append (with_zeros zeros n ms) ns (with_zeros zeros n xs) check sizes
    ∙ ap (λ zs. zs ++ masked ns check) (masked-with_zeros zeros n ms xs same)
    ∙ ap (λ k. with_zeros zeros k (masked ms xs) ++ masked ns check) last

ones-whole : (code : Code) (ms ns : List ℕ) → ones (whole code ms ns) ≡ ones ms + ones ns
unfolding whole_of
ones-whole code ms ns =
    let n = 255 - code.check_count - length ms in
    ones-append (with_zeros code.zeros n ms) ns ∙ ap (λ k. k + ones ns) (ones-with_zeros code.zeros n ms)

masked-long : (code : Code) (ms xs : List ℕ) → length ms ≡ length xs
    → masked (long code ms) (long code xs) ≡ long code (masked ms xs)
masked-long code ms xs same =
    let n = length xs - code.check_count in
    let first : length ms - code.check_count ≡ n = omega arith in
    let last : n ≡ length (masked ms xs) - code.check_count = omega (arith, length-masked ms xs same) in
    let sizes : length (take n ms) ≡ length (take n xs) = omega (arith, length-take n ms, length-take n xs) in
    ap (λ k. masked (whole code (take k ms) (drop k ms)) (long code xs)) first
    ∙ masked-whole code (take n ms) (drop n ms) (take n xs) (drop n xs) sizes
    ∙ ap (λ zs. whole code zs (masked (drop n ms) (drop n xs))) (masked-take n ms xs)
    ∙ ap (whole code (take n (masked ms xs))) (masked-drop n ms xs)
    ∙ ap (λ k. whole code (take k (masked ms xs)) (drop k (masked ms xs))) last

ones-long : (code : Code) (ms : List ℕ) → ones (long code ms) ≡ ones ms
ones-long code ms =
    let n = length ms - code.check_count in
    ones-whole code (take n ms) (drop n ms) ∙ sym (ones-append (take n ms) (drop n ms))
    ∙ ap ones (take-append-drop n ms)

-- ---- marks as flags

-- A flag stands for each mark, at the place that counts the octets after it.
abbrev Marked : List Bool → List ℕ → Type 0
Marked flags [] = Unit {0}
Marked flags (m ∷ ms) = (get_or flags (length ms) false ≡ eqb m 1) × Marked flags ms

marked_from : (flags : List Bool) (ms : List ℕ)
    → ((k : ℕ) → k < length ms → get_or flags (length ms - 1 - k) false ≡ eqb (get_or ms k 0) 1) → Marked flags ms
marked_from flags [] each = tt
marked_from flags (m ∷ ms) each = (
  let here : length (m ∷ ms) - 1 - 0 ≡ length ms = omega arith in
      ap (λ p. get_or flags p false) (sym here) ∙ each 0 (omega arith),
  marked_from flags ms (λ k below.
      let next : length ms - 1 - k ≡ length (m ∷ ms) - 1 - suc k = omega arith in
      ap (λ p. get_or flags p false) next ∙ each (suc k) (omega arith)),
)

marked_whole : (flags : List Bool) (ms : List ℕ) → length ms ≡ 255
    → ((p : ℕ) → p < 255 → get_or flags p false ≡ eqb (get_or ms (254 - p) 0) 1) → Marked flags ms
marked_whole flags ms size each = marked_from flags ms (λ k below.
    let p = length ms - 1 - k in
    let place : 254 - p ≡ k = omega arith in
    each p (omega arith) ∙ ap (λ i. eqb (get_or ms i 0) 1) place)

count_marked : (flags : List Bool) (ms : List ℕ) → length ms ≤ length flags → Marked flags ms
    → count_true (take (length ms) flags) ≡ ones ms
count_marked flags [] within marked = count_true_nil
count_marked flags (m ∷ ms) within marked =
    let n = length ms in
    let more : length (m ∷ ms) ≡ n + 1 = omega arith in
    ap (λ k. count_true (take k flags)) more ∙ count_true_more flags n (omega arith)
    ∙ ap (λ b. count_true (take n flags) + cond b 1 0) marked.0
    ∙ ap (λ k. k + cond (eqb m 1) 1 0) (count_marked flags ms (omega arith) marked.1) ∙ omega arith

abbrev nothing : ℕ
nothing = 0

abbrev single : ℕ
single = 1

one_at_most : (b t : Bool) → cond b nothing (cond t nothing single) ≤ 1
one_at_most true t = omega arith
one_at_most false true = omega arith
one_at_most false false = omega arith

distance_more : (x y : ℕ) (xs ys : List ℕ) → distance xs ys ≤ distance (x ∷ xs) (y ∷ ys)
distance_more x y xs ys =
    elim (cases_eq x y) [
      | inl same ↦
          let step : distance (x ∷ xs) (y ∷ ys) ≡ distance xs ys =
          ap (λ n. distance (x ∷ xs) (n ∷ ys)) (sym same) ∙ distance-same x xs ys in
          omega (arith, step)
      | inr other ↦ omega (arith, distance-other x y xs ys other)
    ]

weight_outside_nil : (flags : List Bool) → weight_outside flags [] ≡ 0
unfolding weight_outside
weight_outside_nil flags = refl

-- Outside the flagged places a sum has no more octets than the words differ in without the marked ones.
weight_outside-masked : (flags : List Bool) (ms us vs : List ℕ) → length ms ≡ length us → length us ≡ length vs
    → Marked flags ms → weight_outside flags (added us vs) ≤ distance (masked ms us) (masked ms vs)
weight_outside-masked flags [] [] vs first second marked = omega (arith, weight_outside_nil flags)
weight_outside-masked flags [] (u ∷ us) vs first second marked = absurd (omega arith)
weight_outside-masked flags (m ∷ ms) [] vs first second marked = absurd (omega arith)
weight_outside-masked flags (m ∷ ms) (u ∷ us) [] first second marked = absurd (omega arith)
weight_outside-masked flags (m ∷ ms) (u ∷ us) (v ∷ vs) first second marked =
    let x = bit_xor u v in
    let n = length (added us vs) in
    let rest = weight_outside-masked flags ms us vs (omega arith) (omega arith) marked.1 in
    let place : n ≡ length ms = omega (arith, length-added us vs (omega arith)) in
    let flag : get_or flags n false ≡ eqb m 1 = ap (λ k. get_or flags k false) place ∙ marked.0 in
    let counted = weight_outside-cons flags x (added us vs) in
    let here = λ (b : Bool). cond b nothing (cond (eqb x 0) nothing single) in
    let own : cond (get_or flags n false) nothing (cond (eqb x 0) nothing single) ≡ here (eqb m 1) = ap here flag in
    let mask = λ (b : Bool). distance (cond b 0 u ∷ masked ms us) (cond b 0 v ∷ masked ms vs) in
    let more = distance_more (cond (eqb m 1) 0 u) (cond (eqb m 1) 0 v) (masked ms us) (masked ms vs) in
    elim (cases_Bool (eqb m 1)) [
      | inl is_mark ↦
          let none : here (eqb m 1) ≡ nothing = ap here is_mark in
          omega (arith, rest, counted, own, none, more)
      | inr no_mark ↦
          elim (cases_eq u v) [
            | inl same ↦
                let x_zero : x ≡ 0 = ap (bit_xor u) (sym same) ∙ xor_self u in
                let none : here (eqb m 1) ≡ nothing =
                ap here no_mark ∙ ap (λ t. cond t nothing single) (eq-eqb x 0 x_zero) in
                omega (arith, rest, counted, own, none, more)
            | inr other ↦
                let step : mask (eqb m 1) ≡ suc (distance (masked ms us) (masked ms vs)) =
                ap mask no_mark ∙ distance-other u v (masked ms us) (masked ms vs) other in
                omega (arith, rest, counted, one_at_most (get_or flags n false) (eqb x 0), step)
          ]
    ]

-- ---- a codeword within reach, whole

pub length-marks : (unknown : List Bool) → length (marks unknown) ≡ length unknown
length-marks unknown = length-map unknown (λ flag. cond flag 1 0)

-- the flags of a whole word stand for its unknown octets
abbrev pub AreWholeFlags : Code → List Bool → List Bool → Type 0
AreWholeFlags code unknown flags =
    (p : ℕ) → p < 255 → get_or flags p false ≡ eqb (get_or (long code (marks unknown)) (254 - p) 0) 1

marked_flags : (code : Code) (unknown flags : List Bool) → code.check_count ≤ length unknown → length unknown ≤ 255
    → AreWholeFlags code unknown flags → Marked flags (long code (marks unknown))
marked_flags code unknown flags least most are =
    marked_whole flags (long code (marks unknown))
    (length-long code (marks unknown) (omega (arith, length-marks unknown)) (omega (arith, length-marks unknown))) are

pub count_whole : (code : Code) (unknown flags : List Bool) → code.check_count ≤ length unknown → length unknown ≤ 255
    → length flags ≡ 255 → AreWholeFlags code unknown flags → count_true flags ≡ count_true unknown
count_whole code unknown flags least most size are =
    let ms = long code (marks unknown) in
    let ms_size : length ms ≡ 255 =
    length-long code (marks unknown) (omega (arith, length-marks unknown)) (omega (arith, length-marks unknown)) in
    ap count_true (sym (take_all (length ms) flags (omega arith)))
    ∙ count_marked flags ms (omega arith) (marked_flags code unknown flags least most are)
    ∙ ones-long code (marks unknown) ∙ ones-marks unknown

-- A codeword within reach of a word is one of 255 octets within reach of the whole word.
wrong_long : (code : Code) (unknown flags : List Bool) (word v : List ℕ) → code.check_count ≤ length word
    → length word ≤ 255 → length unknown ≡ length word → length flags ≡ 255 → AreWholeFlags code unknown flags
    → IsWithinReachOutside code unknown word v
    → IsWrong code.first_root code.check_count flags (long code word) (long code v)
wrong_long code unknown flags word v least most same flags_size are within =
    let n = length v - code.check_count in
    let ms = marks unknown in
    let octets = octets_of_all v within.octets in
    let size = within.size in
    let ms_size = length-marks unknown in
    let v_size : length (long code v) ≡ 255 = length-long code v (omega arith) (omega arith) in
    let word_size = length-long code word least most in
    let marks_size : length (long code ms) ≡ 255 = length-long code ms (omega arith) (omega arith) in
    let count = count_whole code unknown flags (omega arith) (omega arith) flags_size are in
    let few = weight_outside-masked flags (long code ms) (long code word) (long code v) (omega arith) (omega arith)
    (marked_flags code unknown flags (omega arith) (omega arith) are) in
    let masked_word = length-masked ms word (omega arith) in
    let masked_v = length-masked ms v (omega arith) in
    let apart : distance (masked (long code ms) (long code word)) (masked (long code ms) (long code v))
    ≡ distance_outside unknown word v =
    ap (λ xs. distance xs (masked (long code ms) (long code v))) (masked-long code ms word (omega arith))
    ∙ ap (distance (long code (masked ms word))) (masked-long code ms v (omega arith))
    ∙ distance-long code (masked ms word) (masked ms v) (omega arith) (omega arith)
    ∙ ap (λ xs. distance xs (masked ms v)) (sym (blanked-masked unknown word))
    ∙ ap (distance (blanked unknown word)) (sym (blanked-masked unknown v)) in
    record {
      octets = all_of_octets (long code v)
          (Octets-whole code (take n v) (drop n v) (Octets-take n v octets) (Octets-drop n v octets));
      size = v_size ∙ sym word_size;
      vanishes = within.codeword;
      near = omega (arith, within.near, count, few, apart);
    }

-- Where there is a codeword within reach, the word that is repaired is that one.
pub repaired_is : (code : Code) (unknown flags : List Bool) (word v fixed repaired : List ℕ)
    → code.check_count ≤ length word → length word ≤ 255 → length unknown ≡ length word → length flags ≡ 255
    → AreWholeFlags code unknown flags → IsWithinReachOutside code unknown word v
    → ((u : List ℕ) → IsWrong code.first_root code.check_count flags (long code word) u → fixed ≡ u)
    → ((octets check : List ℕ) → length octets + code.check_count ≡ length word → fixed ≡ whole code octets check
    → repaired ≡ octets ++ check)
    → repaired ≡ v
repaired_is code unknown flags word v fixed repaired least most same flags_size are within correct sent =
    sent (data_part code v) (check_part code v)
    (length-data_part code v (omega (arith, within.size)) ∙ within.size)
    (correct (long code v) (wrong_long code unknown flags word v least most same flags_size are within)) ∙ parts code v

-- the same words and numbers by other names
pub same_wrong : (first other count most : ℕ) (unknown : List Bool) (word long u : List ℕ) → first ≡ other
    → count ≡ most → word ≡ long → IsWrong first count unknown word u → IsWrong other most unknown long u
same_wrong first other count most unknown word long u same_first same_count same_word wrong =
    let P : ℕ → Type 0 = λ n. IsWrong n count unknown word u in
    let Q : ℕ → Type 0 = λ n. IsWrong other n unknown word u in
    let R : List ℕ → Type 0 = λ w. IsWrong other most unknown w u in
    subst R same_word (subst Q same_count (subst P same_first wrong))

-- ---- reach

-- A codeword is within its own reach, if there are no more unknown octets than check octets.
pub within_own_reach : (code : Code) (unknown : List Bool) (word : List ℕ) → count_true unknown ≤ code.check_count
    → All (λ x. x < 256) word → IsCodeword code word → IsWithinReachOutside code unknown word word
within_own_reach code unknown word few octets codeword = record {
  size = refl;
  octets = octets;
  codeword = codeword;
  near = omega (arith, few, distance-refl (blanked unknown word));
}

pub length-blanked : (unknown : List Bool) (xs : List ℕ) → length (blanked unknown xs) ≡ length xs
unfolding blanked
length-blanked [] xs = refl
length-blanked (f ∷ fs) [] = refl
length-blanked (f ∷ fs) (x ∷ xs) = ap suc (length-blanked fs xs)

distance_one_more : (x y : ℕ) (xs ys : List ℕ) → distance (x ∷ xs) (y ∷ ys) ≤ suc (distance xs ys)
distance_one_more x y xs ys =
    elim (cases_eq x y) [
      | inl same ↦
          let step : distance (x ∷ xs) (y ∷ ys) ≡ distance xs ys =
          ap (λ n. distance (x ∷ xs) (n ∷ ys)) (sym same) ∙ distance-same x xs ys in
          omega (arith, step)
      | inr other ↦ omega (arith, distance-other x y xs ys other)
    ]

nil_distance : (unknown : List Bool) (ys : List ℕ) → distance [] ys ≡ 0
unfolding distance
nil_distance unknown ys = refl

pub get_or-blanked : (unknown : List Bool) (xs : List ℕ) (i : ℕ) → length unknown ≡ length xs
    → get_or (blanked unknown xs) i 0 ≡ cond (get_or unknown i false) 0 (get_or xs i 0)
unfolding blanked
get_or-blanked [] [] i same = refl
get_or-blanked [] (x ∷ xs) i same = absurd (omega arith)
get_or-blanked (f ∷ fs) [] i same = absurd (omega arith)
get_or-blanked (f ∷ fs) (x ∷ xs) zero same = refl
get_or-blanked (f ∷ fs) (x ∷ xs) (suc i) same = get_or-blanked fs xs i (omega arith)

-- Words differ in no more octets than outside the unknown ones and in all of these.
distance-blanked : (unknown : List Bool) (us vs : List ℕ) → length us ≡ length vs
    → distance us vs ≤ count_true unknown + distance_outside unknown us vs
unfolding blanked count_true
distance-blanked [] us vs same = omega arith
distance-blanked (f ∷ fs) [] vs same = omega (arith, nil_distance fs vs)
distance-blanked (f ∷ fs) (u ∷ us) [] same = absurd (omega arith)
distance-blanked (true ∷ fs) (u ∷ us) (v ∷ vs) same =
    omega (
      arith,
      distance-blanked fs us vs (omega arith),
      distance_one_more u v us vs,
      distance_more 0 0 (blanked fs us) (blanked fs vs),
    )
distance-blanked (false ∷ fs) (u ∷ us) (v ∷ vs) same =
    elim (cases_eq u v) [
      | inl alike ↦
          let step : distance (u ∷ us) (v ∷ vs) ≡ distance us vs =
          ap (λ n. distance (u ∷ us) (n ∷ vs)) (sym alike) ∙ distance-same u us vs in
          omega (
            arith,
            distance-blanked fs us vs (omega arith),
            step,
            distance_more u v (blanked fs us) (blanked fs vs),
          )
      | inr other ↦
          omega (
            arith,
            distance-blanked fs us vs (omega arith),
            distance-other u v us vs other,
            distance-other u v (blanked fs us) (blanked fs vs) other,
          )
    ]

-- One codeword at most is within reach of a word.
pub one_within_reach_outside : (code : Code) (unknown : List Bool) (word u v : List ℕ)
    → code.check_count ≤ length word → length word ≤ 255 → IsWithinReachOutside code unknown word u
    → IsWithinReachOutside code unknown word v → u ≡ v
one_within_reach_outside code unknown word u v least most u_within v_within =
    let same : length u ≡ length v = u_within.size ∙ sym v_within.size in
    let a = length-blanked unknown u in
    let b = length-blanked unknown word in
    let c = length-blanked unknown v in
    codewords_apart code u v (octets_of_all u u_within.octets) (octets_of_all v v_within.octets) same
    (omega (arith, u_within.size)) (omega (arith, u_within.size)) u_within.codeword v_within.codeword
    (omega (
      arith,
      distance-blanked unknown u v same,
      distance-triangle (blanked unknown u) (blanked unknown word) (blanked unknown v)
          (a ∙ u_within.size ∙ sym b) (b ∙ sym v_within.size ∙ sym c),
      distance-comm (blanked unknown u) (blanked unknown word),
      u_within.near,
      v_within.near,
    ))

-- ---- no unknown octets

blanked-none : (n : ℕ) (xs : List ℕ) → blanked (replicate n false) xs ≡ xs
unfolding blanked
blanked-none zero xs = refl
blanked-none (suc n) [] = refl
blanked-none (suc n) (x ∷ xs) = ap (λ ys. x ∷ ys) (blanked-none n xs)

count_true-none : (n : ℕ) → count_true (replicate n false) ≡ 0
unfolding count_true
count_true-none zero = refl
count_true-none (suc n) = ap (λ k. 0 + k) (count_true-none n)

distance-none : (n : ℕ) (word v : List ℕ) → distance_outside (replicate n false) word v ≡ distance word v
distance-none n word v =
    ap (λ xs. distance xs (blanked (replicate n false) v)) (blanked-none n word)
    ∙ ap (distance word) (blanked-none n v)

pub reach_of_known : (code : Code) (n : ℕ) (word v : List ℕ)
    → (IsWithinReachOutside code (replicate n false) word v → IsWithinReach code word v)
    × (IsWithinReach code word v → IsWithinReachOutside code (replicate n false) word v)
reach_of_known code n word v = (
  λ within. record {
    size = within.size;
    octets = within.octets;
    codeword = within.codeword;
    near = omega (arith, within.near, distance-none n word v);
  },
  λ within. record {
    size = within.size;
    octets = within.octets;
    codeword = within.codeword;
    near = omega (arith, within.near, distance-none n word v, count_true-none n);
  },
)
