-- Inserted zeros, counted, are those of the definition.
use Rattle.hdlc_framer.proofs.Common.{◌≡◌, ℕ, zero, suc, ◌+◌, ◌≤◌, Bool, true, false, List, [], ◌∷◌, ◌++◌, refl, ap}
use Rattle.hdlc_framer.proofs.Common.{subst, ◌∙◌, sym, arith, stuffed_from, left_after, stuffed}

-- so many 1s and then the bits
abbrev ones_before : ℕ → List Bool → List Bool
ones_before zero bits = bits
ones_before (suc k) bits = true ∷ ones_before k bits

ones_before-cons : (k : ℕ) (bits : List Bool) → ones_before k (true ∷ bits) ≡ ones_before (suc k) bits
ones_before-cons zero bits = refl
ones_before-cons (suc k) bits = ap (λ xs. true ∷ xs) (ones_before-cons k bits)

stuffed-ones_before-nil : (k : ℕ) → k ≤ 4 → stuffed (ones_before k []) ≡ ones_before k []
stuffed-ones_before-nil zero h = refl
stuffed-ones_before-nil (suc zero) h = refl
stuffed-ones_before-nil (suc (suc zero)) h = refl
stuffed-ones_before-nil (suc (suc (suc zero))) h = refl
stuffed-ones_before-nil (suc (suc (suc (suc zero)))) h = refl
stuffed-ones_before-nil (suc (suc (suc (suc (suc k))))) h = absurd (omega arith)

stuffed-ones_before-false : (k : ℕ) (bits : List Bool) → k ≤ 4
    → stuffed (ones_before k (false ∷ bits)) ≡ ones_before k (false ∷ stuffed bits)
stuffed-ones_before-false zero bits h = refl
stuffed-ones_before-false (suc zero) bits h = refl
stuffed-ones_before-false (suc (suc zero)) bits h = refl
stuffed-ones_before-false (suc (suc (suc zero))) bits h = refl
stuffed-ones_before-false (suc (suc (suc (suc zero)))) bits h = refl
stuffed-ones_before-false (suc (suc (suc (suc (suc k))))) bits h = absurd (omega arith)

-- with a run of k 1s before them
stuffed-ones_before : (bits : List Bool) (k left : ℕ) → k + left ≡ 4
    → stuffed (ones_before k bits) ≡ ones_before k (stuffed_from bits left)
stuffed-ones_before [] k left h = stuffed-ones_before-nil k (omega arith)
stuffed-ones_before (false ∷ bits) k left h =
    stuffed-ones_before-false k bits (omega arith) ∙ ap (λ xs. ones_before k (false ∷ xs))
    (stuffed-ones_before bits 0 4 refl)
stuffed-ones_before (true ∷ bits) k zero h =
    let four : 4 ≡ k = omega arith in
    let P : ℕ → Type 0 = λ n. stuffed (ones_before n (true ∷ bits))
    ≡ ones_before n (true ∷ false ∷ stuffed_from bits 4) in
    subst P four (ap (λ xs. true ∷ true ∷ true ∷ true ∷ true ∷ false ∷ xs) (stuffed-ones_before bits 0 4 refl))
stuffed-ones_before (true ∷ bits) k (suc left) h =
    ap stuffed (ones_before-cons k bits) ∙ stuffed-ones_before bits (suc k) left (omega arith)
    ∙ sym (ones_before-cons k (stuffed_from bits left))

-- at the start of a frame four 1s may come before the fifth
pub stuffed_is : (bits : List Bool) → stuffed bits ≡ stuffed_from bits 4
stuffed_is bits = stuffed-ones_before bits 0 4 refl

pub stuffed_from-append : (bits more : List Bool) (left : ℕ)
    → stuffed_from (bits ++ more) left ≡ stuffed_from bits left ++ stuffed_from more (left_after bits left)
stuffed_from-append [] more left = refl
stuffed_from-append (false ∷ bits) more left = ap (λ xs. false ∷ xs) (stuffed_from-append bits more 4)
stuffed_from-append (true ∷ bits) more zero = ap (λ xs. true ∷ false ∷ xs) (stuffed_from-append bits more 4)
stuffed_from-append (true ∷ bits) more (suc left) = ap (λ xs. true ∷ xs) (stuffed_from-append bits more left)

pub left_after-append : (bits more : List Bool) (left : ℕ)
    → left_after (bits ++ more) left ≡ left_after more (left_after bits left)
left_after-append [] more left = refl
left_after-append (false ∷ bits) more left = left_after-append bits more 4
left_after-append (true ∷ bits) more zero = left_after-append bits more 4
left_after-append (true ∷ bits) more (suc left) = left_after-append bits more left

pub left_after-le : (bits : List Bool) (left : ℕ) → left ≤ 4 → left_after bits left ≤ 4
left_after-le [] left h = h
left_after-le (false ∷ bits) left h = left_after-le bits 4 (omega arith)
left_after-le (true ∷ bits) zero h = left_after-le bits 4 (omega arith)
left_after-le (true ∷ bits) (suc left) h = left_after-le bits left (omega arith)
