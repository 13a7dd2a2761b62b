-- Any two tags differ in 32 bits, so bits are near one tag at most.
use Rattle.fx25_blocks.proofs.Common.{◌≡◌, ℕ, zero, suc, ◌+◌, ◌-◌, ◌*◌, ◌/◌, ◌%◌, ◌<◌, ◌≤◌, Bool, true, false, cond}
use Rattle.fx25_blocks.proofs.Common.{eqb}
use Rattle.fx25_blocks.proofs.Common.{leb, List, [], ◌∷◌, length, refl, ap, subst, ◌∙◌, sym, inl, inr, arith}
use Rattle.fx25_blocks.proofs.Common.{agree_below_at}
use Rattle.fx25_blocks.proofs.Common.{cases_eq, leb-true, IsTag, IsNearTag, differing, tag_bits, bits_of_64, tag_value}
use Rattle.std.proofs.lemmas.Bool.{cond-false, ne_eqb}
use Rattle.hdlc_framer.proofs.BitLemmas.{length-low_bits}

triangle : (heard xs ys : List Bool) → length xs ≡ length heard → length ys ≡ length heard
    → differing xs ys ≤ differing heard xs + differing heard ys
triangle [] [] ys n m = omega arith
triangle [] (x ∷ xs) ys n m = absurd (omega arith)
triangle (h ∷ heard) [] ys n m = absurd (omega arith)
triangle (h ∷ heard) (x ∷ xs) [] n m = absurd (omega arith)
triangle (false ∷ heard) (false ∷ xs) (false ∷ ys) n m = triangle heard xs ys (omega arith) (omega arith)
triangle (false ∷ heard) (false ∷ xs) (true ∷ ys) n m = omega (arith, triangle heard xs ys (omega arith) (omega arith))
triangle (false ∷ heard) (true ∷ xs) (false ∷ ys) n m = omega (arith, triangle heard xs ys (omega arith) (omega arith))
triangle (false ∷ heard) (true ∷ xs) (true ∷ ys) n m = omega (arith, triangle heard xs ys (omega arith) (omega arith))
triangle (true ∷ heard) (false ∷ xs) (false ∷ ys) n m = omega (arith, triangle heard xs ys (omega arith) (omega arith))
triangle (true ∷ heard) (false ∷ xs) (true ∷ ys) n m = omega (arith, triangle heard xs ys (omega arith) (omega arith))
triangle (true ∷ heard) (true ∷ xs) (false ∷ ys) n m = omega (arith, triangle heard xs ys (omega arith) (omega arith))
triangle (true ∷ heard) (true ∷ xs) (true ∷ ys) n m = triangle heard xs ys (omega arith) (omega arith)

pub length-bits_of_64 : (value : ℕ) → length (bits_of_64 value) ≡ 64
unfolding bits_of_64
length-bits_of_64 value = length-low_bits 64 value

pub length-tag_bits : (tag : ℕ) → length (tag_bits tag) ≡ 64
length-tag_bits tag = length-bits_of_64 (tag_value tag)

-- the tags with the numbers i + 1 and j + 1
far : ℕ → ℕ → Bool
far i j = cond (eqb i j) true (leb 32 (differing (tag_bits (i + 1)) (tag_bits (j + 1))))

all_far : (k : ℕ) → k < 121 → far (k / 11) (k % 11) ≡ true
unfolding far bits_of_64 tag_value
all_far k below = agree_below_at (λ n. far (n / 11) (n % 11)) (λ _. true) 121 k refl below

pub tags_apart : (m n : ℕ) → IsTag m → IsTag n → ¬ (m ≡ n) → 32 ≤ differing (tag_bits m) (tag_bits n)
unfolding far
tags_apart m n is_m is_n other =
    let i : ℕ = m - 1 in
    let j : ℕ = n - 1 in
    let k : ℕ = 11 * i + j in
    let first : k / 11 ≡ i = omega arith in
    let second : k % 11 ≡ j = omega arith in
    let apart : i ≡ j → ⊥ = λ same. other (omega arith) in
    let told : far i j ≡ true = ap (λ a. far a j) (sym first) ∙ ap (far (k / 11)) (sym second) ∙ all_far k (omega arith)
    in
    let m_is : i + 1 ≡ m = omega arith in
    let n_is : j + 1 ≡ n = omega arith in
    subst (λ a. 32 ≤ differing (tag_bits a) (tag_bits n)) m_is
    (subst (λ b. 32 ≤ differing (tag_bits (i + 1)) (tag_bits b)) n_is
    (leb-true _ _ (sym (cond-false _ _ _ (ne_eqb i j apart)) ∙ told)))

pub one_tag : (m n : ℕ) (heard : List Bool) → IsTag m → IsTag n → IsNearTag m heard → IsNearTag n heard → m ≡ n
one_tag m n heard is_m is_n near_m near_n =
    elim (cases_eq m n) [
      | inl same ↦ same
      | inr other ↦
          let far = tags_apart m n is_m is_n other in
          let near = triangle heard (tag_bits m) (tag_bits n) (length-tag_bits m ∙ sym near_m.size)
          (length-tag_bits n ∙ sym near_n.size) in
          absurd (omega (arith, far, near, near_m.near, near_n.near))
    ]
