-- What bits open with: at most one frame, and the frame of a block if they are its data.
use Rattle.fx25_blocks.proofs.Common.{◌≡◌, ℕ, zero, suc, ◌+◌, ◌-◌, ◌*◌, ◌<◌, ◌≤◌, Bool, true, false, List, [], ◌∷◌}
use Rattle.fx25_blocks.proofs.Common.{◌++◌, length, take, refl, ap, subst, ◌∙◌, sym, inl, inr, arith, append_assoc}
use Rattle.fx25_blocks.proofs.Common.{append_cancel_left, length-append, take-append-le, take_all, cases_lt, take_at}
use Rattle.fx25_blocks.proofs.Common.{stuffed_from, stuffed, flag, flags, frame_bits, sent_bits, with_fcs, IsFrame}
use Rattle.fx25_blocks.proofs.Common.{EndsFrame, OpensWithFrame, Fits, bits_needed, data_bits, data_count, padded}
use Rattle.std.proofs.Math.Seq.{take-append-add}
use Rattle.hdlc_framer.proofs.BitLemmas.{length-sent_bits}
use Rattle.hdlc_framer.proofs.FrameEnds.{length-with_fcs, one_frame}
use Rattle.hdlc_framer.proofs.StuffingLemmas.{stuffed_is}
use Rattle.fx25_blocks.proofs.InsideFrames.{no_flag_inside}

-- stuffed bits never begin as a flag does
no_flag_first : (bits rest more : List Bool) → 6 ≤ length bits → stuffed_from bits 4 ++ rest ≡ flag ++ more → ⊥
no_flag_first [] rest more long e = omega arith
no_flag_first (true ∷ bits) rest more long e = cc
no_flag_first (false ∷ []) rest more long e = omega arith
no_flag_first (false ∷ false ∷ bits) rest more long e = cc
no_flag_first (false ∷ true ∷ []) rest more long e = omega arith
no_flag_first (false ∷ true ∷ false ∷ bits) rest more long e = cc
no_flag_first (false ∷ true ∷ true ∷ []) rest more long e = omega arith
no_flag_first (false ∷ true ∷ true ∷ false ∷ bits) rest more long e = cc
no_flag_first (false ∷ true ∷ true ∷ true ∷ []) rest more long e = omega arith
no_flag_first (false ∷ true ∷ true ∷ true ∷ false ∷ bits) rest more long e = cc
no_flag_first (false ∷ true ∷ true ∷ true ∷ true ∷ []) rest more long e = omega arith
no_flag_first (false ∷ true ∷ true ∷ true ∷ true ∷ false ∷ bits) rest more long e = cc
no_flag_first (false ∷ true ∷ true ∷ true ∷ true ∷ true ∷ bits) rest more long e = cc

pub frame_no_flag : (frame : List ℕ) (rest more : List Bool) → IsFrame frame
    → frame_bits frame ++ rest ≡ flag ++ more → ⊥
unfolding frame_bits
frame_no_flag frame rest more is_frame e =
    no_flag_first (sent_bits (with_fcs frame)) rest more
    (omega (arith, length-sent_bits (with_fcs frame), length-with_fcs frame, is_frame.least))
    (ap (λ xs. xs ++ rest) (sym (stuffed_is (sent_bits (with_fcs frame)))) ∙ e)

-- the bits of a frame and a flag are no first part of another frame and a flag
not_longer : (frame other : List ℕ) (rest more : List Bool) → length (frame_bits frame) < length (frame_bits other)
    → frame_bits frame ++ (flag ++ rest) ≡ frame_bits other ++ (flag ++ more) → ⊥
unfolding frame_bits
not_longer frame other rest more shorter e =
    let xs = frame_bits frame in
    let ys = frame_bits other in
    let k : ℕ = length xs + 8 in
    let front : take k (xs ++ (flag ++ rest)) ≡ xs ++ flag = take-append-add xs (flag ++ rest) 8 in
    let back : take k (ys ++ (flag ++ more)) ≡ take k (ys ++ flag) =
    ap (take k) (sym (append_assoc ys flag more))
    ∙ take-append-le k (ys ++ flag) more (omega (arith, length-append ys flag)) in
    no_flag_inside (sent_bits (with_fcs other)) k (omega arith) (omega arith) (
      flag ++ xs,
      ap (λ zs. flag ++ zs) (sym back ∙ ap (take k) (sym e) ∙ front) ∙ sym (append_assoc flag xs flag),
    )

pub same_opening : (frame other : List ℕ) (rest more : List Bool) → IsFrame frame → IsFrame other
    → frame_bits frame ++ (flag ++ rest) ≡ frame_bits other ++ (flag ++ more) → frame ≡ other
same_opening frame other rest more is_frame is_other e =
    let xs = frame_bits frame in
    let ys = frame_bits other in
    elim (cases_lt (length xs) (length ys)) [
      | inl shorter ↦ absurd (not_longer frame other rest more shorter e)
      | inr most ↦ elim (cases_lt (length ys) (length xs)) [
        | inl longer ↦ absurd (not_longer other frame more rest longer (sym e))
        | inr least ↦
            let size : length xs ≡ length ys = omega arith in
            let same : xs ≡ ys = sym (take_at xs (flag ++ rest) (length xs) refl) ∙ ap (take (length xs)) e
            ∙ take_at ys (flag ++ more) (length xs) (sym size) in
            let ends : EndsFrame (flag ++ (xs ++ flag)) frame = ([], refl, is_frame) in
            let other_ends : EndsFrame (flag ++ (xs ++ flag)) other =
            ([], ap (λ zs. flag ++ (zs ++ flag)) same, is_other) in
            (one_frame (flag ++ (xs ++ flag)) frame other ends other_ends).0
      ]
    ]

-- flags and a flag begin with a flag
pub first_flag : (count : ℕ) (rest : List Bool) → (more : List Bool) × (flags count ++ (flag ++ rest) ≡ flag ++ more)
first_flag zero rest = (rest, refl)
first_flag (suc count) rest = (flags count ++ (flag ++ rest), append_assoc flag (flags count) (flag ++ rest))

-- after one flag or more
module _ (frame other : List ℕ) (rest more : List Bool) (is_frame : IsFrame frame) (is_other : IsFrame other) where
  same_after : (m n : ℕ) → flags m ++ (flag ++ (frame_bits frame ++ (flag ++ rest)))
      ≡ flags n ++ (flag ++ (frame_bits other ++ (flag ++ more))) → (m ≡ n) × (frame ≡ other)
  same_after zero zero e =
      (refl, same_opening frame other rest more is_frame is_other (append_cancel_left flag _ _ e))
  same_after zero (suc n) e =
      let cut = append_cancel_left flag _ _ (e
      ∙ append_assoc flag (flags n) (flag ++ (frame_bits other ++ (flag ++ more))))
      in
      let first = first_flag n (frame_bits other ++ (flag ++ more)) in
      absurd (frame_no_flag frame (flag ++ rest) first.0 is_frame (cut ∙ first.1))
  same_after (suc m) zero e =
      let cut = append_cancel_left flag _ _ (sym e
      ∙ append_assoc flag (flags m) (flag ++ (frame_bits frame ++ (flag ++ rest))))
      in
      let first = first_flag m (frame_bits frame ++ (flag ++ rest)) in
      absurd (frame_no_flag other (flag ++ more) first.0 is_other (cut ∙ first.1))
  same_after (suc m) (suc n) e =
      let cut = append_cancel_left flag _ _
      (sym (append_assoc flag (flags m) (flag ++ (frame_bits frame ++ (flag ++ rest))))
      ∙ e ∙ append_assoc flag (flags n) (flag ++ (frame_bits other ++ (flag ++ more)))) in
      let same = same_after m n cut in
      (ap suc same.0, same.1)

-- Bits open with at most one frame, which is over at one place.
pub one_opening : (bits : List Bool) (frame other : List ℕ) (over other_over : ℕ) → OpensWithFrame bits frame over
    → OpensWithFrame bits other other_over → (frame ≡ other) × (over ≡ other_over)
one_opening bits frame other over other_over opens other_opens =
    let same = same_after frame other opens.rest other_opens.rest opens.is_frame other_opens.is_frame
    opens.flags_before other_opens.flags_before (sym opens.bits_are ∙ other_opens.bits_are) in
    let size : length (frame_bits frame) ≡ length (frame_bits other) = ap (λ xs. length (frame_bits xs)) same.1 in
    (same.1, omega (arith, opens.over_is, other_opens.over_is, same.0, size))

flags_some : (count : ℕ) → 0 < count → (fewer : ℕ) × (flags count ≡ flag ++ flags fewer)
flags_some zero some = absurd (omega arith)
flags_some (suc count) some = (count, refl)

-- the data of a frame's block open with the frame, after one flag
pub data_opens : (tag : ℕ) (frame : List ℕ) → IsFrame frame → Fits tag (bits_needed frame)
    → OpensWithFrame (data_bits tag frame) frame (length (frame_bits frame) + 16)
unfolding data_bits padded
data_opens tag frame is_frame fits =
    let d = data_count tag in
    let xs = frame_bits frame in
    let some = flags_some d (omega arith) in
    let n : ℕ = 8 * d - 16 - length xs in
    let first : 8 * d ≡ 8 + (length xs + (8 + n)) = omega arith in
    record {
      flags_before = 0;
      rest = take n (flags some.0);
      bits_are = ap (λ zs. take (8 * d) (flag ++ (xs ++ zs))) some.1
          ∙ ap (λ k. take k (flag ++ (xs ++ (flag ++ flags some.0)))) first
          ∙ take-append-add flag (xs ++ (flag ++ flags some.0)) (length xs + (8 + n))
          ∙ ap (λ zs. flag ++ zs) (take-append-add xs (flag ++ flags some.0) (8 + n))
          ∙ ap (λ zs. flag ++ (xs ++ zs)) (take-append-add flag (flags some.0) n);
      is_frame = is_frame;
      over_is = omega arith;
    }
