-- The tag of a unit.
use Rattle.fx25_sender.proofs.Common.{◌≡◌, ℕ, zero, suc, ◌+◌, ◌*◌, ◌/◌, ◌%◌, ◌<◌, ◌≤◌, Bool, true, false, eqb, nat_lt}
use Rattle.fx25_sender.proofs.Common.{Option, Some, None, refl, ap, subst, sym, ◌∙◌, arith, inl, inr, cases_lt}
use Rattle.fx25_sender.proofs.Common.{eqb-true}
use Rattle.fx25_sender.proofs.Common.{agree_below_at, Fits, IsTag, IsTagFor, check_count, data_count, last_tag, eq-eqb}
use Rattle.std.proofs.Common.{cond, leb, if◌then◌else◌}
use Rattle.std.proofs.lemmas.Bool.{cond-true, le-leb, ltb-false, ltb-true, eqb-false}
use Rattle.fx25_blocks.proofs.TagFacts.{fewer_data}

-- so many bits go into the block of a tag with so many check octets
abbrev Takes : ℕ → ℕ → ℕ → Type 0
Takes checks needed tag = (check_count tag ≡ checks) × Fits tag needed

-- the last of the tags up to a number that takes the bits
abbrev pub IsLast : ℕ → ℕ → ℕ → Option ℕ → Type 0
IsLast checks needed n None = (m : ℕ) → 1 ≤ m → m ≤ n → check_count m ≡ checks → Fits m needed → ⊥
IsLast checks needed n (Some tag) = (1 ≤ tag) × (tag ≤ n) × (check_count tag ≡ checks) × Fits tag needed
    × ((m : ℕ) → tag < m → m ≤ n → check_count m ≡ checks → Fits m needed → ⊥)

module _ (checks needed : ℕ) where
  -- the next tag does not take them
  one_more : (n m : ℕ) → (check_count (suc n) ≡ checks → Fits (suc n) needed → ⊥) → m ≤ suc n → check_count m ≡ checks
      → Fits m needed → (m ≤ n → ⊥) → ⊥
  one_more n m refused most same fits later =
      let last : suc n ≡ m = elim (cases_lt n m) [
        | inl after ↦ omega arith
        | inr before ↦ absurd (later before)
      ] in
      subst (λ k. check_count k ≡ checks → Fits k needed → ⊥) last refused same fits

  passed_over : (n : ℕ) (found : Option ℕ) → (check_count (suc n) ≡ checks → Fits (suc n) needed → ⊥)
      → IsLast checks needed n found → IsLast checks needed (suc n) found
  passed_over n None refused is = λ m least most same fits.
      one_more n m refused most same fits (λ before. is m least before same fits)
  passed_over n (Some tag) refused is = (
    is.0,
    omega (arith, is.1),
    is.2,
    is.3,
    λ m after most same fits. one_more n m refused most same fits (λ before. is.4 m after before same fits),
  )

  pub last_tag_is : (n : ℕ) → IsLast checks needed n (last_tag checks needed n)
  unfolding last_tag
  last_tag_is zero = λ m least most same fits. absurd (omega arith)
  last_tag_is (suc n) =
      by_tests (eqb (check_count (suc n)) checks) refl (nat_lt (8 * data_count (suc n)) needed) refl
      (last_tag_is n)
    where
      by_tests : (same : Bool) → eqb (check_count (suc n)) checks ≡ same → (long : Bool)
          → nat_lt (8 * data_count (suc n)) needed ≡ long → IsLast checks needed n (last_tag checks needed n)
          → IsLast checks needed (suc n)
          (if same then (if long then last_tag checks needed n else Some (suc n)) else last_tag checks needed n)
      by_tests true same true long so_far = passed_over n (last_tag checks needed n)
          (λ _ fits. absurd (omega (arith, ltb-true _ _ long))) so_far
      by_tests true same false long so_far = (
        omega arith,
        omega arith,
        eqb-true _ _ same,
        ltb-false _ _ long,
        λ m after most _ _. absurd (omega arith),
      )
      by_tests false same long is so_far = passed_over n (last_tag checks needed n)
          (λ alike _. eqb-false _ _ same alike) so_far

  pub is_tag_for : (tag : ℕ) → IsLast checks needed 11 (Some tag) → IsTagFor checks needed tag
  is_tag_for tag is = record {
    is_tag = (is.0, is.1);
    checks_are = is.2;
    fits = is.3;
    fewest = λ other is_other same fits. elim (cases_lt tag other) [
      | inl later ↦ absurd (is.4 other later is_other.1 same fits)
      | inr before ↦ fewer_data other tag is_other (is.0, is.1) before (same ∙ sym is.2)
    ];
  }

-- tags with as many data octets and as many check octets are one
alike_at : (k : ℕ) → k < 144
    → cond (eqb (check_count (k / 12)) (check_count (k % 12))) (cond (eqb (data_count (k / 12)) (data_count (k % 12)))
    (cond (leb 1 (k / 12)) (cond (leb 1 (k % 12)) (eqb (k / 12) (k % 12)) true) true) true) true ≡ true
unfolding check_count data_count
alike_at k below = agree_below_at (λ j. cond (eqb (check_count (j / 12)) (check_count (j % 12)))
    (cond (eqb (data_count (j / 12)) (data_count (j % 12))) (cond (leb 1 (j / 12)) (cond (leb 1 (j % 12))
    (eqb (j / 12) (j % 12)) true) true) true) true) (λ _. true) 144 k refl below

one_tag_of : (m n : ℕ) → IsTag m → IsTag n → check_count m ≡ check_count n → data_count m ≡ data_count n → m ≡ n
one_tag_of m n is_m is_n same_checks same_data =
    let k : ℕ = 12 * m + n in
    let first : k / 12 ≡ m = omega arith in
    let second : k % 12 ≡ n = omega arith in
    let P : ℕ → ℕ → Type 0 = λ i j. cond (eqb (check_count i) (check_count j)) (cond (eqb (data_count i) (data_count j))
    (cond (leb 1 i) (cond (leb 1 j) (eqb i j) true) true) true) true ≡ true in
    let told : P m n = subst (λ i. P i n) first (subst (P (k / 12)) second (alike_at k (omega arith))) in
    eqb-true m n (sym (cond-true _ _ _ (eq-eqb _ _ same_checks) ∙ cond-true _ _ _ (eq-eqb _ _ same_data)
    ∙ cond-true _ _ _ (le-leb 1 m is_m.0) ∙ cond-true _ _ _ (le-leb 1 n is_n.0)) ∙ told)

pub one_tag : (checks needed tag other : ℕ) → IsTagFor checks needed tag → IsTagFor checks needed other → tag ≡ other
one_tag checks needed tag other first second =
    let most = first.fewest other second.is_tag second.checks_are second.fits in
    let least = second.fewest tag first.is_tag first.checks_are first.fits in
    one_tag_of tag other first.is_tag second.is_tag (first.checks_are ∙ sym second.checks_are) (omega arith)
