-- A register of bits: how it differs from another, and one bit more.
use Rattle.fx25_blocks.proofs.Common.{◌≡◌, ℕ, zero, suc, ◌+◌, ◌-◌, ◌*◌, ◌/◌, ◌%◌, ◌^◌, ◌<◌, Bool, true, false, eqb}
use Rattle.fx25_blocks.proofs.Common.{bit_xor}
use Rattle.fx25_blocks.proofs.Common.{List, [], ◌∷◌, ◌++◌, drop, refl, ap, subst, ◌∙◌, sym, inl, inr, arith, add-one}
use Rattle.fx25_blocks.proofs.Common.{cases_eq}
use Rattle.fx25_blocks.proofs.Common.{low_bits, bits_of_64, differing}
use Rattle.std.proofs.Math.Nat.{pow-suc}
use Rattle.std.proofs.lemmas.Bool.{eq-eqb, ne_eqb}
use Rattle.std.proofs.lemmas.Nat.{xor_shr}
use Rattle.std.proofs.lemmas.Nat.Bits.{bit_at_xor, bit_at_lowest}
use Rattle.std.specs.Int.{bit_at}
use Rattle.std.specs.Int.Bits.{xor_zero_l}
use Rattle.std.specs.Int.RustNames.{count_ones}
use lib.Count.{ones_step}
use Rattle.hdlc_framer.proofs.BitLemmas.{low_bits-push_one, low_bits-with_zero}

-- the lowest bit of a sum
xor_lowest : (a b : ℕ) → bit_xor a b % 2 ≡ (a % 2 + b % 2) % 2
xor_lowest a b = sym (bit_at_lowest (bit_xor a b)) ∙ bit_at_xor a b 0
    ∙ ap (λ n. (n + bit_at b 0) % 2) (bit_at_lowest a) ∙ ap (λ n. (a % 2 + n) % 2) (bit_at_lowest b)

-- one place more
differing-bit : (a b : ℕ) (xs ys : List Bool) → differing (eqb (a % 2) 1 ∷ xs) (eqb (b % 2) 1 ∷ ys)
    ≡ (a % 2 + b % 2) % 2 + differing xs ys
differing-bit a b xs ys =
    elim (cases_eq (a % 2) 1) [
      | inl odd ↦ elim (cases_eq (b % 2) 1) [
        | inl also ↦ ap (λ p. differing (p ∷ xs) (eqb (b % 2) 1 ∷ ys)) (eq-eqb (a % 2) 1 odd)
            ∙ ap (λ q. differing (true ∷ xs) (q ∷ ys)) (eq-eqb (b % 2) 1 also) ∙ omega arith
        | inr not ↦ ap (λ p. differing (p ∷ xs) (eqb (b % 2) 1 ∷ ys)) (eq-eqb (a % 2) 1 odd)
            ∙ ap (λ q. differing (true ∷ xs) (q ∷ ys)) (ne_eqb (b % 2) 1 not) ∙ omega arith
      ]
      | inr even ↦ elim (cases_eq (b % 2) 1) [
        | inl one ↦ ap (λ p. differing (p ∷ xs) (eqb (b % 2) 1 ∷ ys)) (ne_eqb (a % 2) 1 even)
            ∙ ap (λ q. differing (false ∷ xs) (q ∷ ys)) (eq-eqb (b % 2) 1 one) ∙ omega arith
        | inr not ↦ ap (λ p. differing (p ∷ xs) (eqb (b % 2) 1 ∷ ys)) (ne_eqb (a % 2) 1 even)
            ∙ ap (λ q. differing (false ∷ xs) (q ∷ ys)) (ne_eqb (b % 2) 1 not) ∙ omega arith
      ]
    ]

no_ones : count_ones 0 ≡ 0
unfolding count_ones
no_ones = refl

ones_differing : (count a b : ℕ) → a < 2 ^ count → b < 2 ^ count
    → count_ones (bit_xor a b) ≡ differing (low_bits count a) (low_bits count b)
ones_differing zero a b below also =
    let a_none : a ≡ 0 = omega arith in
    let b_none : b ≡ 0 = omega arith in
    ap (λ n. count_ones (bit_xor n b)) a_none ∙ ap count_ones (xor_zero_l b) ∙ ap count_ones b_none ∙ no_ones
ones_differing (suc count) a b below also =
    let double = pow-suc 2 count in
    let half : bit_xor a b / 2 ≡ bit_xor (a / 2) (b / 2) = xor_shr a b 1 in
    let rest = ones_differing count (a / 2) (b / 2) (omega arith) (omega arith) in
    ones_step (bit_xor a b) ∙ ap (λ n. n + count_ones (bit_xor a b / 2)) (xor_lowest a b)
    ∙ ap (λ n. (a % 2 + b % 2) % 2 + count_ones n) half
    ∙ ap (λ n. (a % 2 + b % 2) % 2 + n) rest
    ∙ sym (differing-bit a b (low_bits count (a / 2)) (low_bits count (b / 2)))

pub wrong_bits_are : (a b : ℕ) → a < 2 ^ 64 → b < 2 ^ 64
    → count_ones (bit_xor a b) ≡ differing (bits_of_64 a) (bits_of_64 b)
unfolding bits_of_64
wrong_bits_are a b below also = ones_differing 64 a b below also

pub shift_one : (register : ℕ) → register < 2 ^ 64
    → bits_of_64 (register / 2 + 2 ^ 63) ≡ drop 1 (bits_of_64 register) ++ true ∷ []
unfolding bits_of_64
shift_one register below = low_bits-push_one 63 (register / 2) (omega arith)

pub shift_zero : (register : ℕ) → register < 2 ^ 64
    → bits_of_64 (register / 2) ≡ drop 1 (bits_of_64 register) ++ false ∷ []
unfolding bits_of_64
shift_zero register below = low_bits-with_zero 63 (register / 2) (omega arith)
