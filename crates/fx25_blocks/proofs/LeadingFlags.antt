-- The flags that octets begin with, and their bits.
use Rattle.fx25_blocks.proofs.Common.{◌≡◌, ℕ, zero, suc, ◌+◌, ◌-◌, ◌*◌, ◌<◌, ◌≤◌, Bool, List, [], ◌∷◌, ◌++◌, length}
use Rattle.fx25_blocks.proofs.Common.{take}
use Rattle.fx25_blocks.proofs.Common.{drop, get_or, refl, ap, subst, ◌∙◌, sym, arith, add-one, append_assoc, All}
use Rattle.fx25_blocks.proofs.Common.{append_cancel_left, take_at, flag, flags, frame_bits, sent_bits, octet_bits}
use Rattle.fx25_blocks.proofs.Common.{number_of}
use Rattle.fx25_blocks.proofs.Common.{IsFrame, OpensWithFrame, BeginsWithFrame, Leading}
use Rattle.std.proofs.lemmas.List.Elements.{All-head, All-tail}
use Rattle.hdlc_framer.proofs.BitLemmas.{length-octet_bits, number_of-octet_bits}
use Rattle.hdlc_framer.proofs.StuffLemmas.{flags-more}
use Rattle.fx25_blocks.proofs.OpenLemmas.{first_flag, frame_no_flag}

flag_octet : octet_bits 126 ≡ flag
unfolding octet_bits
flag_octet = refl

leading_tail : (count x : ℕ) (xs : List ℕ) → Leading (suc count) (x ∷ xs) → Leading count xs
leading_tail count x xs leading = record {
  within = omega (arith, leading.within);
  are_flags = λ k below. leading.are_flags (suc k) (omega arith);
  next = λ below. leading.next (omega arith);
}

-- the bits of octets that begin with so many flags
pub leading_bits : (octets : List ℕ) (count : ℕ) → Leading count octets
    → sent_bits octets ≡ flags count ++ sent_bits (drop count octets)
leading_bits octets zero leading = refl
leading_bits [] (suc count) leading = absurd (omega (arith, leading.within))
leading_bits (x ∷ xs) (suc count) leading =
    let first : x ≡ 126 = leading.are_flags 0 (omega arith) in
    ap (λ y. octet_bits y ++ sent_bits xs) first ∙ ap (λ ys. ys ++ sent_bits xs) flag_octet
    ∙ ap (λ ys. flag ++ ys) (leading_bits xs count (leading_tail count x xs leading))
    ∙ sym (append_assoc flag (flags count) (sent_bits (drop count xs)))

-- an octet whose bits are a flag
is_flag : (x : ℕ) (rest more : List Bool) → x < 256 → octet_bits x ++ rest ≡ flag ++ more → x ≡ 126
is_flag x rest more fits e =
    let same : octet_bits x ≡ flag = sym (take_at (octet_bits x) rest 8 (length-octet_bits x)) ∙ ap (take 8) e
    ∙ take_at flag more 8 refl in
    sym (number_of-octet_bits x fits) ∙ ap number_of same

module _ (frame : List ℕ) (rest : List Bool) (is_frame : IsFrame frame) where
  -- Flags in front of a frame are those that the octets begin with.
  same_flags : (octets : List ℕ) (count more : ℕ) → All (λ octet. octet < 256) octets → Leading count octets
      → sent_bits octets ≡ flags more ++ (flag ++ (frame_bits frame ++ (flag ++ rest)))
      → (count ≡ suc more) × (sent_bits (drop count octets) ≡ frame_bits frame ++ (flag ++ rest))
  same_flags [] count more fit leading e =
      let first = first_flag more (frame_bits frame ++ (flag ++ rest)) in
      absurd (none_first first.0 (e ∙ first.1))
    where
      none_first : (xs : List Bool) → [] ≡ flag ++ xs → ⊥
      none_first xs e = cc
  same_flags (x ∷ xs) zero more fit leading e =
      let first = first_flag more (frame_bits frame ++ (flag ++ rest)) in
      absurd (leading.next (omega arith)
      (is_flag x (sent_bits xs) first.0 (All-head (λ y. y < 256) x xs fit) (e ∙ first.1)))
  same_flags (x ∷ xs) (suc count) zero fit leading e =
      let first : x ≡ 126 = leading.are_flags 0 (omega arith) in
      let here : octet_bits x ≡ flag = ap octet_bits first ∙ flag_octet in
      let following : sent_bits xs ≡ frame_bits frame ++ (flag ++ rest) =
      append_cancel_left flag _ _ (ap (λ ys. ys ++ sent_bits xs) (sym here) ∙ e) in
      no_more count xs (leading_tail count x xs leading) following
    where
      no_more : (count : ℕ) (xs : List ℕ) → Leading count xs → sent_bits xs ≡ frame_bits frame ++ (flag ++ rest)
          → (suc count ≡ 1) × (sent_bits (drop count xs) ≡ frame_bits frame ++ (flag ++ rest))
      no_more zero xs leading following = (refl, following)
      no_more (suc n) xs leading following =
          absurd (frame_no_flag frame (flag ++ rest) (flags n ++ sent_bits (drop (suc n) xs)) is_frame
          (sym following ∙ leading_bits xs (suc n) leading ∙ append_assoc flag (flags n) (sent_bits (drop (suc n) xs))))
  same_flags (x ∷ xs) (suc count) (suc more) fit leading e =
      let first : x ≡ 126 = leading.are_flags 0 (omega arith) in
      let here : octet_bits x ≡ flag = ap octet_bits first ∙ flag_octet in
      let following : sent_bits xs ≡ flags more ++ (flag ++ (frame_bits frame ++ (flag ++ rest))) =
      append_cancel_left flag _ _ (ap (λ ys. ys ++ sent_bits xs) (sym here) ∙ e
      ∙ append_assoc flag (flags more) (flag ++ (frame_bits frame ++ (flag ++ rest)))) in
      let same = same_flags xs count more (All-tail (λ y. y < 256) x xs fit) (leading_tail count x xs leading) following in
      (ap suc same.0, same.1)

pub begins_after : (octets : List ℕ) (count : ℕ) (frame : List ℕ) (over : ℕ) → All (λ octet. octet < 256) octets
    → Leading count octets → OpensWithFrame (sent_bits octets) frame over
    → (0 < count) × BeginsWithFrame (sent_bits (drop count octets)) frame (over - 8 * count)
begins_after octets count frame over fit leading opens =
    let same = same_flags frame opens.rest opens.is_frame octets count opens.flags_before fit leading
    opens.bits_are in (
      omega (arith, same.0),
      record {
        rest = opens.rest;
        bits_are = same.1;
        is_frame = opens.is_frame;
        over_is = omega (arith, same.0, opens.over_is);
      },
    )

pub opens_before : (octets : List ℕ) (count : ℕ) (frame : List ℕ) (over : ℕ) → 0 < count → Leading count octets
    → BeginsWithFrame (sent_bits (drop count octets)) frame over
    → OpensWithFrame (sent_bits octets) frame (8 * count + over)
opens_before octets count frame over some leading begins =
    let n : ℕ = count - 1 in
    let is : count ≡ n + 1 = omega arith in
    record {
      flags_before = n;
      rest = begins.rest;
      bits_are = leading_bits octets count leading ∙ ap (λ m. flags m ++ sent_bits (drop count octets)) is
          ∙ ap (λ xs. xs ++ sent_bits (drop count octets)) (flags-more n)
          ∙ append_assoc (flags n) flag (sent_bits (drop count octets))
          ∙ ap (λ xs. flags n ++ (flag ++ xs)) begins.bits_are;
      is_frame = begins.is_frame;
      over_is = omega (arith, begins.over_is);
    }
