-- Bits that differ in one stretch are those of octets that differ in few.
use Rattle.fx25_blocks.proofs.Common.{◌≡◌, ℕ, zero, suc, ◌+◌, ◌-◌, ◌*◌, ◌/◌, ◌%◌, ◌<◌, ◌≤◌, Bool, true, false, cond}
use Rattle.fx25_blocks.proofs.Common.{eqb, List, []}
use Rattle.fx25_blocks.proofs.Common.{◌∷◌, ◌++◌, length, get_or, refl, ap, ◌∙◌, sym, inl, inr, arith, cases_lt, All}
use Rattle.fx25_blocks.proofs.Common.{distance}
use Rattle.fx25_blocks.proofs.Common.{sent_bits, octet_bits, number_of}
use Rattle.std.proofs.Common.{◌⊎◌}
use Rattle.std.proofs.lemmas.Bool.{eq-eqb}
use Rattle.std.proofs.lemmas.List.{ext_get_or, get_or-append-add, get_or_append_left}
use Rattle.std.proofs.lemmas.List.Elements.{All-get_or}
use Rattle.hdlc_framer.proofs.BitLemmas.{length-octet_bits, number_of-octet_bits}
use Rattle.fx25_blocks.specs.Damage.{DifferWithin}

at_most_one : (x y n : ℕ) → (cond (eqb x y) 0 1) + n ≤ 1 + n
at_most_one x y n = one (eqb x y)
  where
    one : (same : Bool) → cond same 0 1 + n ≤ 1 + n
    one same = elim same as (λ b. cond b 0 1 + n ≤ 1 + n) [ true ↦ omega arith | false ↦ omega arith ]

-- lists that agree below one place and from another on
distance_between : (xs ys : List ℕ) (low high : ℕ) → length xs ≡ length ys
    → ((j : ℕ) → (j < low) ⊎ (high ≤ j) → get_or xs j 0 ≡ get_or ys j 0) → distance xs ys ≤ high - low
unfolding distance
distance_between [] ys low high size same = omega arith
distance_between (x ∷ xs) [] low high size same = omega arith
distance_between (x ∷ xs) (y ∷ ys) (suc low) high size same =
    let first : x ≡ y = same 0 (inl (omega arith)) in
    let rest = distance_between xs ys low (high - 1) (omega arith) (λ j outside. same (suc j) (shifted j outside)) in
    let none : cond (eqb x y) 0 1 ≡ nothing = ap (λ b. cond b nothing unit) (eq-eqb x y first) in
    omega (arith, rest, none)
  where
    nothing : ℕ
    nothing = 0

    unit : ℕ
    unit = 1

    shifted : (j : ℕ) → (j < low) ⊎ (high - 1 ≤ j) → (suc j < suc low) ⊎ (high ≤ suc j)
    shifted j (inl below) = inl (omega arith)
    shifted j (inr past) = inr (omega arith)
distance_between (x ∷ xs) (y ∷ ys) zero high size same =
    elim (cases_lt 0 high) [
      | inl some ↦
          let rest = distance_between xs ys 0 (high - 1) (omega arith)
          (λ j outside. same (suc j) (shifted j outside)) in
          omega (arith, rest, at_most_one x y (distance xs ys))
      | inr none ↦
          let first : x ≡ y = same 0 (inr none) in
          let rest = distance_between xs ys 0 0 (omega arith) (λ j outside. same (suc j) (inr (omega arith))) in
          let equal : cond (eqb x y) 0 1 ≡ nothing = ap (λ b. cond b nothing unit) (eq-eqb x y first) in
          omega (arith, rest, equal)
    ]
  where
    nothing : ℕ
    nothing = 0

    unit : ℕ
    unit = 1

    shifted : (j : ℕ) → (j < 0) ⊎ (high - 1 ≤ j) → (suc j < 0) ⊎ (high ≤ suc j)
    shifted j (inl below) = absurd (omega arith)
    shifted j (inr past) = inr (omega arith)

-- a bit of octets
bit_of : (xs : List ℕ) (j k : ℕ) → j < length xs → k < 8
    → get_or (sent_bits xs) (8 * j + k) false ≡ get_or (octet_bits (get_or xs j 0)) k false
bit_of [] j k within below = absurd (omega arith)
bit_of (x ∷ xs) zero k within below =
    let here : 8 * 0 + k ≡ k = omega arith in
    ap (λ n. get_or (octet_bits x ++ sent_bits xs) n false) here
    ∙ get_or_append_left (octet_bits x) (sent_bits xs) false k (omega (arith, length-octet_bits x))
bit_of (x ∷ xs) (suc j) k within below =
    let there : 8 * suc j + k ≡ length (octet_bits x) + (8 * j + k) = omega (arith, length-octet_bits x) in
    ap (λ n. get_or (octet_bits x ++ sent_bits xs) n false) there
    ∙ get_or-append-add (octet_bits x) (sent_bits xs) (8 * j + k) false ∙ bit_of xs j k (omega arith) below

module _ (word block : List ℕ) (start count : ℕ) (fit : All (λ octet. octet < 256) word)
    (also : All (λ octet. octet < 256) block) (size : length word ≡ length block)
    (differ : DifferWithin start count (sent_bits word) (sent_bits block)) where
  octet_same : (j : ℕ) → (8 * j + 8 ≤ start) ⊎ (start + count ≤ 8 * j) → get_or word j 0 ≡ get_or block j 0
  octet_same j outside =
      elim (cases_lt j (length word)) [
        | inl within ↦
            let xs = octet_bits (get_or word j 0) in
            let ys = octet_bits (get_or block j 0) in
            let bits : xs ≡ ys = ext_get_or false xs ys
            (length-octet_bits (get_or word j 0) ∙ sym (length-octet_bits (get_or block j 0)))
            (λ k below. let inside : k < 8 = omega (arith, length-octet_bits (get_or word j 0)) in
            sym (bit_of word j k within inside) ∙ differ (8 * j + k) (place j k outside inside)
            ∙ bit_of block j k (omega arith) inside) in
            sym (number_of-octet_bits (get_or word j 0) (All-get_or (λ x. x < 256) word j 0 within fit))
            ∙ ap number_of bits
            ∙ number_of-octet_bits (get_or block j 0) (All-get_or (λ x. x < 256) block j 0 (omega arith) also)
        | inr past ↦ past_end word j past ∙ sym (past_end block j (omega arith))
      ]
    where
      place : (j k : ℕ) → (8 * j + 8 ≤ start) ⊎ (start + count ≤ 8 * j) → k < 8
          → (8 * j + k < start) ⊎ (start + count ≤ 8 * j + k)
      place j k (inl before) inside = inl (omega arith)
      place j k (inr following) inside = inr (omega arith)

      past_end : (xs : List ℕ) (j : ℕ) → length xs ≤ j → get_or xs j 0 ≡ 0
      past_end [] j most = refl
      past_end (x ∷ xs) zero most = absurd (omega arith)
      past_end (x ∷ xs) (suc j) most = past_end xs j (omega arith)

  pub few_octets : 8 * distance word block ≤ count + 14
  few_octets =
      let low : ℕ = start / 8 in
      let high : ℕ = (start + count + 7) / 8 in
      let few = distance_between word block low high size (λ j outside. octet_same j (octet_outside j outside)) in
      omega arith
    where
      octet_outside : (j : ℕ) → (j < start / 8) ⊎ ((start + count + 7) / 8 ≤ j)
          → (8 * j + 8 ≤ start) ⊎ (start + count ≤ 8 * j)
      octet_outside j (inl before) = inl (omega arith)
      octet_outside j (inr following) = inr (omega arith)
