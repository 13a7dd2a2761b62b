-- What all tags have in common, by computation.
use Rattle.fx25_blocks.proofs.Common.{◌≡◌, ℕ, ◌+◌, ◌%◌, ◌<◌, ◌≤◌, true, leb, eqb, refl, arith, agree_below_at, leb-true}
use Rattle.fx25_blocks.proofs.Common.{eqb-true, IsTag, block_length, check_count, data_count, cond, ◌/◌, ◌*◌, subst}
use Rattle.fx25_blocks.proofs.Common.{sym, ◌∙◌}
use Rattle.std.proofs.lemmas.Bool.{cond-true, eq-eqb, le-leb}

pub most_data : (tag : ℕ) → IsTag tag → data_count tag ≤ 239
unfolding data_count
most_data tag is_tag = leb-true _ _ (agree_below_at (λ j. leb (data_count j) 239) (λ _. true) 12 tag refl (omega arith))

pub most_checks : (tag : ℕ) → IsTag tag → check_count tag ≤ 64
unfolding check_count
most_checks tag is_tag = leb-true _ _
    (agree_below_at (λ j. leb (check_count j) 64) (λ _. true) 12 tag refl (omega arith))

pub least_checks : (tag : ℕ) → IsTag tag → 16 ≤ check_count tag
unfolding check_count
least_checks tag is_tag = leb-true _ _
    (agree_below_at (λ j. leb 16 (check_count j)) (λ _. true) 12 tag refl (omega arith))

pub even_checks : (tag : ℕ) → IsTag tag → check_count tag % 2 ≡ 0
unfolding check_count
even_checks tag is_tag = eqb-true _ _
    (agree_below_at (λ j. eqb (check_count j % 2) 0) (λ _. true) 12 tag refl (omega arith))

pub most_octets : (tag : ℕ) → IsTag tag → block_length tag ≤ 255
unfolding check_count data_count
most_octets tag is_tag = leb-true _ _
    (agree_below_at (λ j. leb (block_length j) 255) (λ _. true) 12 tag refl (omega arith))

-- of two tags with as many check octets the earlier one has at least as many data octets
fewer_at : (k : ℕ) → k < 144
    → cond (eqb (check_count (k / 12)) (check_count (k % 12))) (cond (leb (k / 12) (k % 12))
    (leb (data_count (k % 12)) (data_count (k / 12))) true) true ≡ true
unfolding check_count data_count
fewer_at k below = agree_below_at (λ j. cond (eqb (check_count (j / 12)) (check_count (j % 12)))
    (cond (leb (j / 12) (j % 12)) (leb (data_count (j % 12)) (data_count (j / 12))) true) true)
    (λ _. true) 144 k refl below

pub fewer_data : (m n : ℕ) → IsTag m → IsTag n → m ≤ n → check_count m ≡ check_count n → data_count n ≤ data_count m
fewer_data m n is_m is_n before same =
    let k : ℕ = 12 * m + n in
    let first : k / 12 ≡ m = omega arith in
    let second : k % 12 ≡ n = omega arith in
    let P : ℕ → ℕ → Type 0 = λ i j. cond (eqb (check_count i) (check_count j)) (cond (leb i j)
    (leb (data_count j) (data_count i)) true) true ≡ true in
    let told : P m n = subst (λ i. P i n) first (subst (P (k / 12)) second (fewer_at k (omega arith))) in
    leb-true _ _ (sym (cond-true _ _ _ (eq-eqb _ _ same) ∙ cond-true _ _ _ (le-leb m n before)) ∙ told)
