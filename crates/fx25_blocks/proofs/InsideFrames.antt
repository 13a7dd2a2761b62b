-- Between the first flag of a frame and the end of its last one, no flag and no abort ends.
use Rattle.fx25_blocks.proofs.Common.{◌≡◌, ℕ, zero, suc, ◌+◌, ◌-◌, ◌<◌, ◌≤◌, Bool, true, false, List, [], ◌∷◌, ◌++◌}
use Rattle.fx25_blocks.proofs.Common.{length, take, refl, ap, subst, ◌∙◌, sym, inl, inr, arith, append_assoc}
use Rattle.fx25_blocks.proofs.Common.{append-nil}
use Rattle.fx25_blocks.proofs.Common.{length-append, take_all, take-append-le, cases_lt, same_from_push, left_after}
use Rattle.fx25_blocks.proofs.Common.{stuffed_from, stuffed, flag, frame_bits, sent_bits, with_fcs, run_of_ones}
use Rattle.fx25_blocks.proofs.Common.{EndsFlag, EndsAbort, get_or, take_more}
use Rattle.std.proofs.Math.Seq.{take-append-add}
use Rattle.hdlc_framer.proofs.Lines.{flag_front, run-push_one, run-push_zero}
use Rattle.hdlc_framer.proofs.StuffingLemmas.{stuffed_is}

-- the run of 1s at the end, if so many stood before
abbrev run : ℕ → List Bool → ℕ
run n [] = n
run n (true ∷ bits) = run (1 + n) bits
run n (false ∷ bits) = run 0 bits

run_of_ones-append : (more bits : List Bool) → run_of_ones (bits ++ more) ≡ run (run_of_ones bits) more
run_of_ones-append [] bits = ap run_of_ones (append-nil bits)
run_of_ones-append (true ∷ more) bits =
    ap run_of_ones (sym (append_assoc bits (true ∷ []) more)) ∙ run_of_ones-append more (bits ++ true ∷ [])
    ∙ ap (λ n. run n more) (run-push_one bits)
run_of_ones-append (false ∷ more) bits =
    ap run_of_ones (sym (append_assoc bits (false ∷ []) more)) ∙ run_of_ones-append more (bits ++ false ∷ [])
    ∙ ap (λ n. run n more) (run-push_zero bits)

run-append : (bits more : List Bool) (n : ℕ) → run n (bits ++ more) ≡ run (run n bits) more
run-append [] more n = refl
run-append (true ∷ bits) more n = run-append bits more (1 + n)
run-append (false ∷ bits) more n = run-append bits more 0

-- stuffed bits end with fewer than five 1s
run_stuffed : (bits : List Bool) (n left : ℕ) → n + left ≡ 4 → run n (stuffed_from bits left) ≤ 4
run_stuffed [] n left four = omega arith
run_stuffed (false ∷ bits) n left four = run_stuffed bits 0 4 refl
run_stuffed (true ∷ bits) n zero four = run_stuffed bits 0 4 refl
run_stuffed (true ∷ bits) n (suc left) four = run_stuffed bits (1 + n) left (omega arith)

-- and have at most five in a row
run_inside : (bits : List Bool) (n left k : ℕ) → n + left ≡ 4 → run n (take k (stuffed_from bits left)) ≤ 5
run_inside bits n left zero four = omega arith
run_inside [] n left (suc k) four = omega arith
run_inside (false ∷ bits) n left (suc k) four = run_inside bits 0 4 k refl
run_inside (true ∷ bits) n zero (suc zero) four = omega arith
run_inside (true ∷ bits) n zero (suc (suc k)) four = run_inside bits 0 4 k refl
run_inside (true ∷ bits) n (suc left) (suc k) four = run_inside bits (1 + n) left k (omega arith)

run_flag : (j n : ℕ) → n ≤ 4 → j < 8 → (run n (take j flag) ≤ 6) × (run n (take j flag) ≡ 6 → j ≡ 7)
run_flag zero n few below = (omega arith, λ six. absurd (omega arith))
run_flag (suc zero) n few below = (omega arith, λ six. absurd (omega arith))
run_flag (suc (suc zero)) n few below = (omega arith, λ six. absurd (omega arith))
run_flag (suc (suc (suc zero))) n few below = (omega arith, λ six. absurd (omega arith))
run_flag (suc (suc (suc (suc zero)))) n few below = (omega arith, λ six. absurd (omega arith))
run_flag (suc (suc (suc (suc (suc zero))))) n few below = (omega arith, λ six. absurd (omega arith))
run_flag (suc (suc (suc (suc (suc (suc zero)))))) n few below = (omega arith, λ six. absurd (omega arith))
run_flag (suc (suc (suc (suc (suc (suc (suc zero))))))) n few below = (omega arith, λ six. refl)
run_flag (suc (suc (suc (suc (suc (suc (suc (suc j)))))))) n few below = absurd (omega arith)

module _ (bits : List Bool) where
  -- a run of six ends in front of the last bit of the flag after stuffed bits, and nowhere before
  run_before : (k : ℕ) → k < length (stuffed bits) + 8
      → (run 0 (take k (stuffed bits ++ flag)) ≤ 6)
      × (run 0 (take k (stuffed bits ++ flag)) ≡ 6 → k ≡ length (stuffed bits) + 7)
  run_before k below =
      elim (cases_lt k (length (stuffed bits))) [
        | inl inside ↦
            let here : run 0 (take k (stuffed bits ++ flag)) ≡ run 0 (take k (stuffed_from bits 4)) =
            ap (run 0) (take-append-le k (stuffed bits) flag (omega arith)
            ∙ ap (take k) (stuffed_is bits)) in
            let few : run 0 (take k (stuffed_from bits 4)) ≤ 5 = run_inside bits 0 4 k refl in
            (omega arith, λ six. absurd (omega arith))
        | inr past ↦
            let j : ℕ = k - length (stuffed bits) in
            let is : length (stuffed bits) + j ≡ k = omega arith in
            let here : run 0 (take k (stuffed bits ++ flag)) ≡ run (run 0 (stuffed_from bits 4)) (take j flag) =
            ap (λ n. run 0 (take n (stuffed bits ++ flag))) (sym is)
            ∙ ap (run 0) (take-append-add (stuffed bits) flag j)
            ∙ run-append (stuffed bits) (take j flag) 0
            ∙ ap (λ xs. run (run 0 xs) (take j flag)) (stuffed_is bits) in
            let told = run_flag j (run 0 (stuffed_from bits 4)) (run_stuffed bits 0 4 refl) (omega arith) in (
              omega (arith, here, told.0),
              λ six. let last = told.1 (omega (arith, here)) in omega arith,
            )
      ]

  pub no_abort_inside : (k : ℕ) → k < length (stuffed bits) + 8 → ¬ EndsAbort (flag ++ take k (stuffed bits ++ flag))
  no_abort_inside k below abort =
      omega (arith, (run_before k below).0, run_of_ones-append (take k (stuffed bits ++ flag)) flag, abort)

  pub no_flag_inside : (k : ℕ) → 0 < k → k < length (stuffed bits) + 8
      → ¬ EndsFlag (flag ++ take k (stuffed bits ++ flag))
  no_flag_inside k some below ends =
      let line = stuffed bits ++ flag in
      let size : length line ≡ length (stuffed bits) + 8 = length-append (stuffed bits) flag in
      let j : ℕ = k - 1 in
      let is : j + 1 ≡ k = omega arith in
      let last : take k line ≡ take j line ++ get_or line j false ∷ [] =
      ap (λ n. take n line) (sym is) ∙ take_more line j false (omega arith) in
      let front : flag ++ take j line ≡ ends.0 ++ flag_front =
      (same_from_push (flag ++ take j line) (ends.0 ++ flag_front) (get_or line j false) false
      (append_assoc flag (take j line) (get_or line j false ∷ []) ∙ ap (λ xs. flag ++ xs) (sym last) ∙ ends.1
      ∙ sym (append_assoc ends.0 flag_front (false ∷ [])))).0 in
      let six : run_of_ones (ends.0 ++ flag_front) ≡ 6 = run_of_ones-append flag_front ends.0 in
      let here : run 0 (take j line) ≡ 6 = sym (run_of_ones-append (take j line) flag) ∙ ap run_of_ones front ∙ six in
      omega (arith, (run_before j (omega arith)).1 here)
