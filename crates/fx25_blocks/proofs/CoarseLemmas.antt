-- The coarse counts of wrong bits: fields side by side, and that a count is at most the number of wrong bits and 3.
use Rattle.fx25_blocks.proofs.Common.{◌≡◌, ℕ, zero, suc, ◌+◌, ◌-◌, ◌*◌, ◌/◌, ◌%◌, ◌^◌, ◌<◌, ◌≤◌, min, Bool, true, false}
use Rattle.fx25_blocks.proofs.Common.{List, [], ◌∷◌, ◌++◌, length, get_or, refl, ap, subst, ◌∙◌, sym, arith, eqb, bit_and}
use Rattle.fx25_blocks.proofs.Common.{IsTag, low_bits, bits_of_64, differing, tag_bits, tag_value, cond, leb, leb-true}
use Rattle.fx25_blocks.proofs.Common.{agree_below_at, eqb-true, add-one}
use Rattle.std.proofs.lemmas.List.FromFn.{get_or-map-range_with_len}
use Rattle.std.specs.List.{range_with_len}
use Rattle.std.proofs.Common.{map}
use Rattle.std.proofs.Math.Nat.{pow-suc, min-le_left, min-le_right}
use Rattle.std.proofs.lemmas.Nat.{shr-shr}
use Rattle.std.proofs.lemmas.Nat.Bits.{bit_at_and}
use Rattle.std.specs.Int.{bit_at}
use Rattle.hdlc_framer.proofs.BitLemmas.{length-low_bits}
use Rattle.fx25_blocks.specs.CoarseCounts.{coarse_total, tag_numbers}
unfoldable use Rattle.fx25_blocks.specs.CoarseCounts.{coarse, packed, row_at}

-- ---- fields side by side

-- fields are added side by side
pub packed-add : (f g : ℕ → ℕ) (tags : List ℕ)
    → packed (map f tags) + packed (map g tags) ≡ packed (map (λ tag. f tag + g tag) tags)
unfolding packed
packed-add f g [] = refl
packed-add f g (tag ∷ tags) = let rest = packed-add f g tags in omega arith

-- eleven fields that are small fit into 55 bits
pub packed-lt : (f : ℕ → ℕ) → ((tag : ℕ) → f tag < 32) → packed (map f tag_numbers) < 2 ^ 55
unfolding packed
packed-lt f small =
    let a = small 1 in
    let b = small 2 in
    let c = small 3 in
    let d = small 4 in
    let e = small 5 in
    let g = small 6 in
    let h = small 7 in
    let i = small 8 in
    let j = small 9 in
    let k = small 10 in
    let l = small 11 in
    omega arith

-- the highest bit of a field
field_bit : (field rest : ℕ) → field < 32 → bit_at (field + 32 * rest) 4 ≡ field / 16
field_bit field rest small = omega arith

next_bits : (field rest i : ℕ) → field < 32 → bit_at (field + 32 * rest) (5 + i) ≡ bit_at rest i
next_bits field rest i small =
    let whole : (field + 32 * rest) / 32 ≡ rest = omega arith in
    ap (λ n. n % 2) (sym (shr-shr (field + 32 * rest) 5 i) ∙ ap (λ n. n / 2 ^ i) whole)

pub highest_bit : (f : ℕ → ℕ) (tags : List ℕ) (i : ℕ) → ((tag : ℕ) → f tag < 32) → i < length tags
    → bit_at (packed (map f tags)) (5 * i + 4) ≡ f (get_or tags i 0) / 16
unfolding packed
highest_bit f [] i small below = absurd (omega arith)
highest_bit f (tag ∷ tags) zero small below = field_bit (f tag) (packed (map f tags)) (small tag)
highest_bit f (tag ∷ tags) (suc i) small below =
    let place : 5 * suc i + 4 ≡ 5 + (5 * i + 4) = omega arith in
    ap (bit_at (f tag + 32 * packed (map f tags))) place
    ∙ next_bits (f tag) (packed (map f tags)) (5 * i + 4) (small tag)
    ∙ highest_bit f tags i small (omega arith)

-- ---- counts of wrong bits

differing-append : (a b c d : List Bool) → length a ≡ length b
    → differing (a ++ c) (b ++ d) ≡ differing a b + differing c d
differing-append [] [] c d same = omega arith
differing-append [] (y ∷ b) c d same = absurd (omega arith)
differing-append (x ∷ a) [] c d same = absurd (omega arith)
differing-append (false ∷ a) (false ∷ b) c d same = differing-append a b c d (omega arith)
differing-append (false ∷ a) (true ∷ b) c d same = omega (arith, differing-append a b c d (omega arith))
differing-append (true ∷ a) (false ∷ b) c d same = omega (arith, differing-append a b c d (omega arith))
differing-append (true ∷ a) (true ∷ b) c d same = differing-append a b c d (omega arith)

low_bits-add : (m n a : ℕ) → low_bits (m + n) a ≡ low_bits m a ++ low_bits n (a / 2 ^ m)
low_bits-add zero n a =
    let none : 0 + n ≡ n = omega arith in
    let whole : a / 2 ^ 0 ≡ a = omega arith in
    ap (λ m. low_bits m a) none ∙ ap (low_bits n) (sym whole)
low_bits-add (suc m) n a =
    let next : suc m + n ≡ suc (m + n) = omega arith in
    let later : 1 + m ≡ suc m = omega arith in
    ap (λ k. low_bits k a) next
    ∙ ap (λ xs. eqb (a % 2) 1 ∷ xs)
    (low_bits-add m n (a / 2) ∙ ap (λ b. low_bits m (a / 2) ++ low_bits n b) (shr-shr a 1 m ∙ ap (λ k. a / 2 ^ k) later))

-- eight bits are those of the remainder by 256
eight_of : (a : ℕ) → low_bits 8 (a % 256) ≡ low_bits 8 a
eight_of a =
    let first : a % 256 % 2 ≡ a % 2 = omega arith in
    let second : a % 256 / 2 % 2 ≡ a / 2 % 2 = omega arith in
    let third : a % 256 / 2 / 2 % 2 ≡ a / 2 / 2 % 2 = omega arith in
    let fourth : a % 256 / 2 / 2 / 2 % 2 ≡ a / 2 / 2 / 2 % 2 = omega arith in
    let fifth : a % 256 / 2 / 2 / 2 / 2 % 2 ≡ a / 2 / 2 / 2 / 2 % 2 = omega arith in
    let sixth : a % 256 / 2 / 2 / 2 / 2 / 2 % 2 ≡ a / 2 / 2 / 2 / 2 / 2 % 2 = omega arith in
    let seventh : a % 256 / 2 / 2 / 2 / 2 / 2 / 2 % 2 ≡ a / 2 / 2 / 2 / 2 / 2 / 2 % 2 = omega arith in
    let last : a % 256 / 2 / 2 / 2 / 2 / 2 / 2 / 2 % 2 ≡ a / 2 / 2 / 2 / 2 / 2 / 2 / 2 % 2 = omega arith in
    (λ i. eqb (first i) 1 ∷ eqb (second i) 1 ∷ eqb (third i) 1 ∷ eqb (fourth i) 1 ∷ eqb (fifth i) 1
    ∷ eqb (sixth i) 1 ∷ eqb (seventh i) 1 ∷ eqb (last i) 1 ∷ [])

-- the wrong bits among the first
wrong_first : ℕ → ℕ → ℕ → ℕ
wrong_first register bits tag = differing (low_bits bits register) (low_bits bits (tag_value tag))

wrong_more : (register m n tag : ℕ) → wrong_first register (m + n) tag
    ≡ wrong_first register m tag + differing (low_bits n (register / 2 ^ m)) (low_bits n (tag_value tag / 2 ^ m))
unfolding wrong_first
wrong_more register m n tag =
    ap (λ xs. differing xs (low_bits (m + n) (tag_value tag))) (low_bits-add m n register)
    ∙ ap (differing (low_bits m register ++ low_bits n (register / 2 ^ m))) (low_bits-add m n (tag_value tag))
    ∙ differing-append (low_bits m register) (low_bits m (tag_value tag)) (low_bits n (register / 2 ^ m))
    (low_bits n (tag_value tag / 2 ^ m)) (length-low_bits m register ∙ sym (length-low_bits m (tag_value tag)))

coarse_most : (piece register tag : ℕ) → coarse piece (register / 2 ^ (8 * piece) % 256) tag
    ≤ differing (low_bits 8 (register / 2 ^ (8 * piece))) (low_bits 8 (tag_value tag / 2 ^ (8 * piece)))
unfolding coarse
coarse_most piece register tag =
    let tag_eight = low_bits 8 (tag_value tag / 2 ^ (8 * piece)) in
    let same = ap (λ xs. differing xs tag_eight) (eight_of (register / 2 ^ (8 * piece))) in
    omega (
      arith,
      same,
      min-le_right 4 (differing (low_bits 8 (register / 2 ^ (8 * piece) % 256)) tag_eight),
    )

pub coarse_small : (piece eight tag : ℕ) → coarse piece eight tag ≤ 4
unfolding coarse
coarse_small piece eight tag =
    min-le_left 4 (differing (low_bits 8 eight) (low_bits 8 (tag_value tag / 2 ^ (8 * piece))))

pub total_small : (register pieces tag : ℕ) → coarse_total register pieces tag ≤ 3 + 4 * pieces
total_small register zero tag = omega arith
total_small register (suc pieces) tag =
    omega (arith, total_small register pieces tag, coarse_small pieces (register / 2 ^ (8 * pieces) % 256) tag)

total_most : (register pieces tag : ℕ)
    → coarse_total register pieces tag ≤ 3 + wrong_first register (8 * pieces) tag
total_most register zero tag = omega arith
total_most register (suc pieces) tag =
    let next : 8 * suc pieces ≡ 8 * pieces + 8 = omega arith in
    let more : wrong_first register (8 * suc pieces) tag ≡ wrong_first register (8 * pieces) tag
    + differing (low_bits 8 (register / 2 ^ (8 * pieces))) (low_bits 8 (tag_value tag / 2 ^ (8 * pieces)))
    = ap (λ n. wrong_first register n tag) next ∙ wrong_more register (8 * pieces) 8 tag in
    omega (arith, more, total_most register pieces tag, coarse_most pieces register tag)

-- a count of 16 tells of 13 wrong bits
many_wrong : (register tag : ℕ) → 16 ≤ coarse_total register 6 tag
    → 12 < differing (bits_of_64 register) (tag_bits tag)
unfolding bits_of_64 wrong_first
many_wrong register tag many =
    let all : wrong_first register 64 tag ≡ wrong_first register 48 tag
    + differing (low_bits 16 (register / 2 ^ 48)) (low_bits 16 (tag_value tag / 2 ^ 48)) = wrong_more register 48 16 tag
    in
    omega (arith, all, total_most register 6 tag)

-- ---- all tags at once

-- the highest bit of each field
abbrev pub highest : ℕ
highest = 0x0042_1084_2108_4210

number_at : (i : ℕ) → i < 11 → get_or tag_numbers i 0 ≡ i + 1
number_at i below = eqb-true _ _
    (agree_below_at (λ j. eqb (get_or tag_numbers j 0) (j + 1)) (λ _. true) 11 i refl below)

bit_of_highest : (i : ℕ) → i < 11 → bit_at highest (5 * i + 4) ≡ 1
bit_of_highest i below = eqb-true _ _
    (agree_below_at (λ j. eqb (bit_at highest (5 * j + 4)) 1) (λ _. true) 11 i refl below)

pub all_far : (register counts : ℕ) → counts ≡ packed (map (coarse_total register 6) tag_numbers)
    → bit_and counts highest ≡ highest
    → (tag : ℕ) → IsTag tag → 12 < differing (bits_of_64 register) (tag_bits tag)
all_far register counts is all tag is_tag =
    let i : ℕ = tag - 1 in
    let below : i < 11 = omega arith in
    let place : ℕ = 5 * i + 4 in
    let set : min (bit_at counts place) (bit_at highest place) ≡ bit_at highest place =
    sym (bit_at_and counts highest place) ∙ ap (λ n. bit_at n place) all in
    let one = bit_of_highest i below in
    let small : (t : ℕ) → coarse_total register 6 t < 32 = λ t. omega (arith, total_small register 6 t) in
    let number : get_or tag_numbers i 0 ≡ tag = number_at i below ∙ omega arith in
    let field : bit_at counts place ≡ coarse_total register 6 tag / 16 =
    ap (λ n. bit_at n place) is ∙ highest_bit (coarse_total register 6) tag_numbers i small below
    ∙ ap (λ t. coarse_total register 6 t / 16) number in
    let least = min-le_left (bit_at counts place) (bit_at highest place) in
    many_wrong register tag (omega arith)

-- ---- the table and the loop

-- a row of the table
pub row_in : (piece eight : ℕ) → piece < 6 → eight < 256
    → get_or (map (λ place. row_at (place / 256) (place % 256)) (range_with_len 0 1536)) (256 * piece + eight) 0
    ≡ row_at piece eight
row_in piece eight low small =
    let place : ℕ = 256 * piece + eight in
    let first : place / 256 ≡ piece = omega arith in
    let second : place % 256 ≡ eight = omega arith in
    get_or-map-range_with_len (λ p. row_at (p / 256) (p % 256)) 0 1536 place place 0 (omega arith) (omega arith)
    ∙ ap (λ n. row_at n (place % 256)) first ∙ ap (row_at piece) second

pub totals_none : (register : ℕ) → 0x000C_6318_C631_8C63 ≡ packed (map (coarse_total register 0) tag_numbers)
unfolding packed
totals_none register = refl

pub totals_more : (register piece rest counts row : ℕ) → rest ≡ register / 2 ^ (8 * piece)
    → counts ≡ packed (map (coarse_total register piece) tag_numbers) → row ≡ row_at piece (rest % 256)
    → counts + row ≡ packed (map (coarse_total register (piece + 1)) tag_numbers)
unfolding row_at
totals_more register piece rest counts row rest_is counts_is row_is =
    ap (λ n. n + row) counts_is
    ∙ ap (λ n. packed (map (coarse_total register piece) tag_numbers) + n)
    (row_is ∙ ap (λ n. row_at piece (n % 256)) rest_is)
    ∙ packed-add (coarse_total register piece) (coarse piece (register / 2 ^ (8 * piece) % 256)) tag_numbers
    ∙ ap (λ n. packed (map (coarse_total register n) tag_numbers)) (sym (add-one piece))

pub totals-lt : (register pieces counts : ℕ) → pieces ≤ 6
    → counts ≡ packed (map (coarse_total register pieces) tag_numbers) → counts < 2 ^ 55
totals-lt register pieces counts few is =
    let most = packed-lt (coarse_total register pieces)
    (λ tag. let small = total_small register pieces tag in omega arith) in omega arith
