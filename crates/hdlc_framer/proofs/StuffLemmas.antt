-- The bits of a transmission, one piece after another.
use Rattle.hdlc_framer.proofs.Common.{◌≡◌, ℕ, zero, suc, ◌+◌, ◌/◌, ◌%◌, ◌<◌, ◌≤◌, Bool, cond, eqb, List, [], ◌∷◌, ◌++◌}
use Rattle.hdlc_framer.proofs.Common.{length, get_or, take, refl, ap, ◌∙◌, sym, arith, append_assoc, add-one, ne_eqb}
use Rattle.hdlc_framer.proofs.Common.{take_all, take_more, length-take-le, flat_map-append, octet_bits, sent_bits}
use Rattle.hdlc_framer.proofs.Common.{flags, joined, body, fcs_of, stuffed_from, left_after, frame_bits, with_fcs, flag}
use Rattle.hdlc_framer.proofs.StuffingLemmas.{stuffed_is, stuffed_from-append, left_after-append}

-- stuffed bits, and more of them if the count goes on
stuffed_more : (before bits more : List Bool) (left : ℕ)
    → (before ++ stuffed_from bits left) ++ stuffed_from more (left_after bits left)
    ≡ before ++ stuffed_from (bits ++ more) left
stuffed_more before bits more left =
    append_assoc before (stuffed_from bits left) (stuffed_from more (left_after bits left))
    ∙ ap (λ xs. before ++ xs) (sym (stuffed_from-append bits more left))

module _ (bits more : List Bool) (left here : ℕ) where
  -- what has been sent, if so many 1s may come here
  pub sent_more : (before now next : List Bool) → now ≡ before ++ stuffed_from bits left → here ≡ left_after bits left
      → next ≡ now ++ stuffed_from more here → next ≡ before ++ stuffed_from (bits ++ more) left
  sent_more before now next is_now is_here is_next =
      is_next ∙ ap (λ xs. xs ++ stuffed_from more here) is_now
      ∙ ap (λ n. (before ++ stuffed_from bits left) ++ stuffed_from more n) is_here
      ∙ stuffed_more before bits more left

  -- and how many may come then
  pub left_more : (after : ℕ) → here ≡ left_after bits left → after ≡ left_after more here
      → after ≡ left_after (bits ++ more) left
  left_more after is_here is_after = is_after ∙ ap (left_after more) is_here ∙ sym (left_after-append bits more left)

pub flags-more : (count : ℕ) → flags (count + 1) ≡ flags count ++ flag
flags-more count = ap flags (add-one count) ∙ more count
  where
    more : (count : ℕ) → flags (suc count) ≡ flags count ++ flag
    more zero = refl
    more (suc count) = ap (λ xs. flag ++ xs) (more count) ∙ sym (append_assoc flag (flags count) flag)

-- a frame is its octets and then its check sequence
pub frame_bits-is : (octets : List ℕ) → frame_bits octets
    ≡ stuffed_from (sent_bits octets) 4 ++ stuffed_from (sent_bits ((fcs_of octets % 256) ∷ (fcs_of octets / 256) ∷ []))
    (left_after (sent_bits octets) 4)
unfolding frame_bits with_fcs
frame_bits-is octets =
    let check = (fcs_of octets % 256) ∷ (fcs_of octets / 256) ∷ [] in
    stuffed_is (sent_bits (octets ++ check)) ∙ ap (λ xs. stuffed_from xs 4) (flat_map-append octet_bits octets check)
    ∙ stuffed_from-append (sent_bits octets) (sent_bits check) 4

-- one frame more
pub joined-push : (frames : List (List ℕ)) (octets : List ℕ)
    → joined (frames ++ octets ∷ []) ≡ joined frames
    ++ (cond (eqb (length frames) 0) (frame_bits octets) (flag ++ frame_bits octets))
joined-push [] octets = refl
joined-push (first ∷ frames) octets = following first frames octets
    ∙ ap (λ t. joined (first ∷ frames) ++ cond t (frame_bits octets) (flag ++ frame_bits octets))
    (sym (ne_eqb (length (first ∷ frames)) 0 (omega arith)))
  where
    following : (first : List ℕ) (frames : List (List ℕ)) (octets : List ℕ)
        → joined ((first ∷ frames) ++ octets ∷ []) ≡ joined (first ∷ frames) ++ (flag ++ frame_bits octets)
    following first [] octets = refl
    following first (next ∷ frames) octets =
        ap (λ xs. frame_bits first ++ (flag ++ xs)) (following next frames octets)
        ∙ ap (λ xs. frame_bits first ++ xs)
        (sym (append_assoc flag (joined (next ∷ frames)) (flag ++ frame_bits octets)))
        ∙ sym (append_assoc (frame_bits first) (flag ++ joined (next ∷ frames)) (flag ++ frame_bits octets))

-- a frame sent after other bits
pub frame_sent : (before : List Bool) (octets check : List ℕ) (now next : List Bool) (left : ℕ)
    → check ≡ (fcs_of octets % 256) ∷ (fcs_of octets / 256) ∷ []
    → now ≡ before ++ stuffed_from (sent_bits octets) 4 → left ≡ left_after (sent_bits octets) 4
    → next ≡ now ++ stuffed_from (sent_bits check) left → next ≡ before ++ frame_bits octets
frame_sent before octets check now next left is_check is_now is_left is_next =
    is_next ∙ ap (λ xs. now ++ stuffed_from (sent_bits xs) left) is_check
    ∙ ap (λ xs. xs ++ stuffed_from (sent_bits ((fcs_of octets % 256) ∷ (fcs_of octets / 256) ∷ [])) left) is_now
    ∙ ap (λ n. (before ++ stuffed_from (sent_bits octets) 4) ++ stuffed_from
    (sent_bits ((fcs_of octets % 256) ∷ (fcs_of octets / 256) ∷ [])) n) is_left
    ∙ append_assoc before (stuffed_from (sent_bits octets) 4)
    (stuffed_from (sent_bits ((fcs_of octets % 256) ∷ (fcs_of octets / 256) ∷ []))
    (left_after (sent_bits octets) 4))
    ∙ ap (λ xs. before ++ xs) (sym (frame_bits-is octets))

-- one frame more after the opening flags
pub joined_more : (before now next : List Bool) (frames : List (List ℕ)) (place : ℕ) (octets : List ℕ)
    → place < length frames → octets ≡ get_or frames place octets → now ≡ before ++ joined (take place frames)
    → next ≡ now ++ cond (eqb place 0) (frame_bits octets) (flag ++ frame_bits octets)
    → next ≡ before ++ joined (take (place + 1) frames)
joined_more before now next frames place octets below is_octets is_now is_next =
    let size : length (take place frames) ≡ place = length-take-le place frames (omega arith) in
    let last : List Bool = cond (eqb place 0) (frame_bits octets) (flag ++ frame_bits octets) in
    is_next ∙ ap (λ xs. xs ++ last) is_now ∙ append_assoc before (joined (take place frames)) last
    ∙ ap (λ n. before ++ (joined (take place frames) ++ cond (eqb n 0) (frame_bits octets) (flag ++ frame_bits octets)))
    (sym size)
    ∙ ap (λ xs. before ++ xs) (sym (joined-push (take place frames) octets))
    ∙ ap (λ x. before ++ joined (take place frames ++ x ∷ [])) is_octets
    ∙ ap (λ xs. before ++ joined xs) (sym (take_more frames place octets below))

-- and the closing flags
pub body_sent : (frames : List (List ℕ)) (opening closing place : ℕ) (now next : List Bool) → length frames ≤ place
    → now ≡ flags opening ++ joined (take place frames) → next ≡ now ++ flags closing
    → next ≡ body frames opening closing
unfolding body
body_sent frames opening closing place now next all is_now is_next =
    is_next ∙ ap (λ xs. xs ++ flags closing) (is_now ∙ ap (λ xs. flags opening ++ joined xs)
    (take_all place frames all))
    ∙ append_assoc (flags opening) (joined frames) (flags closing)
