-- The bits of a transmission, cut where a frame or a flag ends.
use Rattle.channel_access.proofs.Common.{◌≡◌, ℕ, zero, suc, ◌+◌, ◌*◌, ◌/◌, ◌%◌, ◌≤◌, Bool, true, false, cond, ltb, List}
use Rattle.channel_access.proofs.Common.{[], ◌∷◌, ◌++◌, length, refl, ap, ◌∙◌, sym, arith, length-append, append_assoc}
use Rattle.channel_access.proofs.Common.{append-nil, sent_bits, flags, body, fcs_of, frame_bits, with_fcs, flag}
use Rattle.channel_access.proofs.Common.{length-sent_bits, stuffed_is, flag_bit, flag_rest, Modem, Bell202, ShortWave}
use Rattle.channel_access.proofs.Common.{Fx25, body_by, joined_by, piece, tagged, count_of, Option, Some}
use Rattle.channel_access.proofs.Common.{None, eqb}
use Rattle.fx25_blocks.specs.Blocks.{bits_needed}
use Rattle.fx25_blocks.specs.Tags.{tag_bits, tag_value}
use Rattle.fx25_blocks.specs.Units.{IsUnit}
use Rattle.fx25_blocks.specs.Units.IsUnit.{in_block, plain}
use Rattle.fx25_blocks.proofs.TagDistance.{length-bits_of_64}
use Rattle.fx25_blocks.proofs.TagFacts.{least_checks}
use Rattle.fx25_sender.specs.Units.{last_tag, unit, unit_with}
use Rattle.fx25_sender.proofs.UnitLemmas.{unit_is}
use Rattle.std.proofs.lemmas.Bool.{ne_eqb}
use Rattle.hdlc_framer.specs.Body.{joined}
use Rattle.hdlc_framer.specs.Counted.{stuffed_from}

-- flags are all their last bits
pub flags-is : (count : ℕ) → flags count ≡ flag_rest (8 * count)
flags-is zero = refl
flags-is (suc count) = ap (λ bits. flag ++ bits) (flags-is count) ∙ eight (8 * count) (omega arith)
    ∙ ap flag_rest (omega arith)
  where
    -- the next bit
    one : (now left : ℕ) (bit : Bool) → now ≡ suc left → flag_bit now ≡ bit → flag_rest now ≡ bit ∷ flag_rest left
    one now left bit more is =
        ap flag_rest more ∙ ap (λ b. b ∷ flag_rest left) (ap flag_bit (sym more) ∙ is)

    here : (left place : ℕ) → left % 8 ≡ place → flag_bit left ≡ ltb 1 place
    here left place is = ap (λ r. ltb 1 r) is

    -- a flag before whole flags
    eight : (left : ℕ) → left % 8 ≡ 0 → flag ++ flag_rest left ≡ flag_rest (8 + left)
    eight left whole =
        let a : flag_bit (8 + left) ≡ false = here (8 + left) 0 (omega arith) in
        let b : flag_bit (7 + left) ≡ true = here (7 + left) 7 (omega arith) in
        let c : flag_bit (6 + left) ≡ true = here (6 + left) 6 (omega arith) in
        let d : flag_bit (5 + left) ≡ true = here (5 + left) 5 (omega arith) in
        let e : flag_bit (4 + left) ≡ true = here (4 + left) 4 (omega arith) in
        let f : flag_bit (3 + left) ≡ true = here (3 + left) 3 (omega arith) in
        let g : flag_bit (2 + left) ≡ true = here (2 + left) 2 (omega arith) in
        let h : flag_bit (1 + left) ≡ false = here (1 + left) 1 (omega arith) in
        sym (
        one (8 + left) (7 + left) false (omega arith) a
        ∙ ap (λ xs. false ∷ xs) (one (7 + left) (6 + left) true (omega arith) b
        ∙ ap (λ xs. true ∷ xs) (one (6 + left) (5 + left) true (omega arith) c
        ∙ ap (λ xs. true ∷ xs) (one (5 + left) (4 + left) true (omega arith) d
        ∙ ap (λ xs. true ∷ xs) (one (4 + left) (3 + left) true (omega arith) e
        ∙ ap (λ xs. true ∷ xs) (one (3 + left) (2 + left) true (omega arith) f
        ∙ ap (λ xs. true ∷ xs) (one (2 + left) (1 + left) true (omega arith) g
        ∙ ap (λ xs. true ∷ xs) (one (1 + left) left false (omega arith) h)))))))
        )

pub length-flag_rest : (left : ℕ) → length (flag_rest left) ≡ left
length-flag_rest zero = refl
length-flag_rest (suc left) = ap suc (length-flag_rest left)

-- the closing flags come after all else
pub body-closing : (modem : Modem) (frames : List (List ℕ)) (opening closing : ℕ)
    → body_by modem frames opening closing ≡ body_by modem frames opening 0 ++ flags closing
unfolding body_by
body-closing modem frames opening closing = simp (append_assoc, append-nil)

-- the first of them, and then the others
pub body-more_closing : (modem : Modem) (frames : List (List ℕ)) (opening closing : ℕ)
    → body_by modem frames opening (1 + closing) ≡ body_by modem frames opening 1 ++ flags closing
unfolding body_by
body-more_closing modem frames opening closing =
    let more : 1 + closing ≡ suc closing = omega arith in
    ap (λ n. flags opening ++ (joined_by modem frames ++ flags n)) more ∙ simp append_assoc

-- with no frame the closing flags come after the opening flags
pub body-none : (modem : Modem) (opening closing : ℕ) → body_by modem [] opening closing ≡ flags opening ++ flags closing
unfolding body_by
body-none modem opening closing = refl

-- the first frame comes after the opening flags
pub body-single : (modem : Modem) (octets : List ℕ) (opening : ℕ)
    → body_by modem (octets ∷ []) opening 0 ≡ flags opening ++ piece modem octets
unfolding body_by
body-single modem octets opening = ap (λ bits. flags opening ++ bits) (append-nil (piece modem octets))

-- one more
pub joined-more : (modem : Modem) (frames : List (List ℕ)) (octets : List ℕ)
    → joined_by modem (frames ++ octets ∷ [])
    ≡ joined_by modem frames ++ cond (eqb (length frames) 0) (piece modem octets) (flag ++ piece modem octets)
joined-more modem [] octets = refl
joined-more modem (first ∷ frames) octets =
    following first frames
    ∙ ap (λ t. joined_by modem (first ∷ frames) ++ cond t (piece modem octets) (flag ++ piece modem octets))
    (sym (ne_eqb (length (first ∷ frames)) 0 (omega arith)))
  where
    following : (first : List ℕ) (frames : List (List ℕ)) → joined_by modem ((first ∷ frames) ++ octets ∷ [])
        ≡ joined_by modem (first ∷ frames) ++ (flag ++ piece modem octets)
    following first [] = refl
    following first (next ∷ frames) =
        ap (λ xs. piece modem first ++ (flag ++ xs)) (following next frames)
        ∙ ap (λ xs. piece modem first ++ xs)
        (sym (append_assoc flag (joined_by modem (next ∷ frames)) (flag ++ piece modem octets)))
        ∙ sym (append_assoc (piece modem first) (flag ++ joined_by modem (next ∷ frames)) (flag ++ piece modem octets))

-- another one comes after the flag that follows the one before
pub body-push : (modem : Modem) (past : List (List ℕ)) (last next : List ℕ) (opening : ℕ)
    → body_by modem ((past ++ last ∷ []) ++ next ∷ []) opening 0
    ≡ body_by modem (past ++ last ∷ []) opening 1 ++ piece modem next
unfolding body_by
body-push modem past last next opening =
    let frames : List (List ℕ) = past ++ last ∷ [] in
    let some : length frames ≡ 0 → ⊥ = λ none. omega (arith, length-append past (last ∷ [])) in
    let joins : joined_by modem (frames ++ next ∷ []) ≡ joined_by modem frames ++ (flag ++ piece modem next) =
    joined-more modem frames next
    ∙ ap (λ t. joined_by modem frames ++ cond t (piece modem next) (flag ++ piece modem next))
    (ne_eqb (length frames) 0 some) in
    ap (λ bits. flags opening ++ (bits ++ [])) joins ∙ simp (append_assoc, append-nil)

-- plainly they are the bits of a transmission of frames
pub body-plain : (modem : Modem) → ((octets : List ℕ) → piece modem octets ≡ frame_bits octets)
    → (frames : List (List ℕ)) (opening closing : ℕ) → body_by modem frames opening closing ≡ body frames opening closing
unfolding body_by body
body-plain modem is frames opening closing = ap (λ xs. flags opening ++ (xs ++ flags closing)) (all frames)
  where
    all : (frames : List (List ℕ)) → joined_by modem frames ≡ joined frames
    all [] = refl
    all (octets ∷ []) = is octets
    all (octets ∷ next ∷ frames) =
        ap (λ xs. xs ++ (flag ++ joined_by modem (next ∷ frames))) (is octets)
        ∙ ap (λ xs. frame_bits octets ++ (flag ++ xs)) (all (next ∷ frames))

-- inserted zeros only add bits
stuffed_from-long : (bits : List Bool) (left : ℕ) → length bits ≤ length (stuffed_from bits left)
stuffed_from-long [] left = omega arith
stuffed_from-long (false ∷ bits) left = omega (arith, stuffed_from-long bits 4)
stuffed_from-long (true ∷ bits) zero = omega (arith, stuffed_from-long bits 4)
stuffed_from-long (true ∷ bits) (suc left) = omega (arith, stuffed_from-long bits left)

-- a frame is longer than a tick and a flag
pub frame_bits-long : (octets : List ℕ) → 15 ≤ length octets → 136 ≤ length (frame_bits octets)
unfolding frame_bits with_fcs
frame_bits-long octets least = omega (
  arith,
  ap length (stuffed_is (sent_bits (with_fcs octets))),
  stuffed_from-long (sent_bits (with_fcs octets)) 4,
  length-sent_bits (with_fcs octets),
  length-append octets ((fcs_of octets % 256) ∷ (fcs_of octets / 256) ∷ []),
)

-- ---- what stands for a frame is longer than a tick and a flag

-- a tag and a block are longer than any frame has to be
unit-long : (checks least : ℕ) (found : Option ℕ) (octets : List ℕ) → IsUnit checks octets (unit_with found octets)
    → least ≤ 136 → least ≤ length (frame_bits octets) → least ≤ length (tagged found octets)
unit-long checks least None octets is few long = long
unit-long checks least (Some tag) octets (in_block unit) few long =
    let block = unit.block_of in
    let some = least_checks unit.tag unit.tag_for.is_tag in
    omega (
      arith,
      ap length unit.bits_are,
      length-append (tag_bits unit.tag) (sent_bits unit.block),
      length-bits_of_64 (tag_value unit.tag),
      length-sent_bits unit.block,
      block.size,
    )
unit-long checks least (Some tag) octets (plain none is) few long = omega (
  arith,
  ap length is,
  length-append flag (frame_bits octets ++ flag),
  length-append (frame_bits octets) flag,
)

piece-least : (modem : Modem) (least : ℕ) (octets : List ℕ) → least ≤ 136 → least ≤ length (frame_bits octets)
    → least ≤ length (piece modem octets)
unfolding piece unit
piece-least Bell202 least octets few long = long
piece-least ShortWave least octets few long = long
piece-least (Fx25 checks) least octets few long =
    unit-long (count_of checks) least (last_tag (count_of checks) (bits_needed octets) 11) octets
    (unit_is (count_of checks) octets) few long

pub piece-long : (modem : Modem) (octets : List ℕ) → 15 ≤ length octets → 136 ≤ length (piece modem octets)
piece-long modem octets least = piece-least modem 136 octets (omega arith) (frame_bits-long octets least)

-- the check sequence of a frame alone is longer than a tick
pub piece-some : (modem : Modem) (octets : List ℕ) → 16 ≤ length (piece modem octets)
unfolding frame_bits with_fcs
piece-some modem octets = piece-least modem 16 octets (omega arith) (omega (
  arith,
  ap length (stuffed_is (sent_bits (with_fcs octets))),
  stuffed_from-long (sent_bits (with_fcs octets)) 4,
  length-sent_bits (with_fcs octets),
  length-append octets ((fcs_of octets % 256) ∷ (fcs_of octets / 256) ∷ []),
))
