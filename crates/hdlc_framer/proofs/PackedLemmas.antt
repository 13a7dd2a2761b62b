-- Octets and a part of an octet, as bits and as a frame.
use Rattle.hdlc_framer.proofs.Common.{◌≡◌, ℕ, ◌+◌, ◌-◌, ◌*◌, ◌/◌, ◌%◌, ◌<◌, ◌≤◌, Bool, not, eqb, ltb, List, [], ◌∷◌}
use Rattle.hdlc_framer.proofs.Common.{◌++◌, length, get_or, take, drop, refl, ap, subst, ◌∙◌, sym, inl, inr, arith}
use Rattle.hdlc_framer.proofs.Common.{length-append, All, lt-ltb, le-ltb, eq-eqb, ne_eqb, cases_eq, low_bits, sent_bits}
use Rattle.hdlc_framer.proofs.Common.{number_of, fcs_of, IsFrame, with_fcs, flag_start}
use Rattle.std.proofs.Common.{length-take, length-drop, take-append-drop}
use Rattle.std.proofs.lemmas.List.{append_cancel_left, drop_at}
use Rattle.std.proofs.lemmas.List.Elements.{All-take, All-drop, All-get_or}
use Rattle.hdlc_framer.specs.Packed.{IsPacked}
use Rattle.hdlc_framer.proofs.BitLemmas.{length-low_bits, number_of-low_bits, packed_octet, same_octets}
use Rattle.hdlc_framer.proofs.FrameEnds.{with_fcs_fits, length-with_fcs, without_fcs}

pub packed_push : (octets : List ℕ) (filled part octet : ℕ) (bit : Bool) (bits : List Bool) → 7 ≡ filled
    → low_bits (filled + 1) octet ≡ low_bits filled part ++ bit ∷ []
    → sent_bits octets ++ low_bits filled part ≡ bits → sent_bits (octets ++ octet ∷ []) ++ [] ≡ bits ++ bit ∷ []
packed_push octets filled part octet bit bits seven whole same =
    let P : ℕ → Type 0 = λ n. low_bits (n + 1) octet ≡ low_bits n part ++ bit ∷ []
    → sent_bits octets ++ low_bits n part ≡ bits → sent_bits (octets ++ octet ∷ []) ++ [] ≡ bits ++ bit ∷ [] in
    let at_seven : P 7 = λ e f. packed_octet octets part octet bit e ∙ ap (λ xs. xs ++ bit ∷ []) f in
    subst P seven at_seven whole same

-- there is room in a part, or else if the octets are not full
pub room_in_part : (count filled size : ℕ) → count ≤ 1026 → filled < 7 → size ≡ 8 * count + filled
    → ltb filled 7 ≡ ltb size 8215
room_in_part count filled size fits part e = lt-ltb filled 7 part ∙ sym (lt-ltb size 8215 (omega arith))

pub room_in_octets : (count filled size : ℕ) (full : Bool) → count ≤ 1026 → filled ≡ 7 → size ≡ 8 * count + filled
    → full ≡ eqb count 1026 → not full ≡ ltb size 8215
room_in_octets count filled size full fits seven e is_full =
    elim (cases_eq count 1026) [
      | inl equal ↦ ap not (is_full ∙ eq-eqb count 1026 equal) ∙ sym (le-ltb size 8215 (omega arith))
      | inr other ↦ ap not (is_full ∙ ne_eqb count 1026 other) ∙ sym (lt-ltb size 8215 (omega arith))
    ]

-- ---- the frame in packed bits

module _ (items : List ℕ) (filled part : ℕ) (bits : List Bool) (octets : List ℕ) where
  pub frame_items : IsPacked items filled part → sent_bits items ++ low_bits filled part ≡ bits
      → bits ≡ sent_bits (with_fcs octets) ++ flag_start → IsFrame octets → items ≡ with_fcs octets
  frame_items packed same closes is_frame =
      let short : length (low_bits filled part) < 8 = omega (arith, length-low_bits filled part, packed.below_octet) in
      same_octets items (with_fcs octets) (low_bits filled part) flag_start packed.octets_fit
      (with_fcs_fits octets is_frame.octets_fit) short (omega arith) (same ∙ closes)

  pub frame_part : IsPacked items filled part → sent_bits items ++ low_bits filled part ≡ bits
      → bits ≡ sent_bits (with_fcs octets) ++ flag_start → IsFrame octets → (filled ≡ 6) × (part ≡ 62)
  frame_part packed same closes is_frame =
      let whole = frame_items packed same closes is_frame in
      let rest : low_bits filled part ≡ flag_start =
      append_cancel_left (sent_bits (with_fcs octets)) (low_bits filled part) flag_start
      (ap (λ xs. sent_bits xs ++ low_bits filled part) (sym whole) ∙ same ∙ closes) in (
        sym (length-low_bits filled part) ∙ ap length rest,
        sym (number_of-low_bits filled part packed.part_fits)
            ∙ ap number_of rest,
      )

  pub frame_bits_from : sent_bits items ++ low_bits filled part ≡ bits → items ≡ with_fcs octets → filled ≡ 6
      → part ≡ 62 → bits ≡ sent_bits (with_fcs octets) ++ flag_start
  frame_bits_from same whole six sixty_two =
      sym same ∙ ap (λ xs. sent_bits xs ++ low_bits filled part) whole
      ∙ ap (λ n. sent_bits (with_fcs octets) ++ low_bits n part) six
      ∙ ap (λ n. sent_bits (with_fcs octets) ++ low_bits 6 n) sixty_two

  pub frame_length : IsPacked items filled part → sent_bits items ++ low_bits filled part ≡ bits
      → bits ≡ sent_bits (with_fcs octets) ++ flag_start → IsFrame octets → length items ≡ length octets + 2
  frame_length packed same closes is_frame = ap length (frame_items packed same closes is_frame)
      ∙ length-with_fcs octets

  pub frame_octets : IsPacked items filled part → sent_bits items ++ low_bits filled part ≡ bits
      → bits ≡ sent_bits (with_fcs octets) ++ flag_start → IsFrame octets → take (length items - 2) items ≡ octets
  frame_octets packed same closes is_frame = ap (λ xs. take (length xs - 2) xs)
      (frame_items packed same closes is_frame) ∙ without_fcs octets

-- ---- octets that end with their check sequence

pair_of : (xs : List ℕ) → length xs ≡ 2 → xs ≡ get_or xs 0 0 ∷ get_or xs 1 0 ∷ []
pair_of [] two = absurd (omega arith)
pair_of (x ∷ []) two = absurd (omega arith)
pair_of (x ∷ y ∷ []) two = refl
pair_of (x ∷ y ∷ z ∷ xs) two = absurd (omega arith)

-- all but two octets, and the two
module _ (octets frame sent : List ℕ) where
  pub fcs_ends : frame ≡ take (length octets - 2) octets → sent ≡ drop (length octets - 2) octets → 17 ≤ length octets
      → length octets ≤ 1026 → All (λ octet. octet < 256) octets
      → get_or sent 0 0 + get_or sent 1 0 * 256 ≡ fcs_of frame → (octets ≡ with_fcs frame) × IsFrame frame
  unfolding with_fcs
  fcs_ends front back least most fit is_fcs =
      let size : length frame ≡ length octets - 2 = ap length front ∙ length-take (length octets - 2) octets
      ∙ omega arith in
      let two : length sent ≡ 2 = ap length back ∙ length-drop (length octets - 2) octets ∙ omega arith in
      let sent_fit : All (λ octet. octet < 256) sent = subst (All (λ octet. octet < 256)) (sym back)
      (All-drop (λ octet. octet < 256) (length octets - 2) octets fit) in
      let low_fits : get_or sent 0 0 < 256 = All-get_or (λ octet. octet < 256) sent 0 0 (omega arith) sent_fit in
      let high_fits : get_or sent 1 0 < 256 = All-get_or (λ octet. octet < 256) sent 1 0 (omega arith) sent_fit in
      let low : get_or sent 0 0 ≡ fcs_of frame % 256 = omega arith in
      let high : get_or sent 1 0 ≡ fcs_of frame / 256 = omega arith in (
        sym (take-append-drop (length octets - 2) octets) ∙ ap (λ xs. xs ++ drop (length octets - 2) octets) (sym front)
            ∙ ap (λ xs. frame ++ xs) (sym back ∙ pair_of sent two)
            ∙ ap (λ n. frame ++ n ∷ get_or sent 1 0 ∷ []) low ∙ ap (λ n. frame ++ (fcs_of frame % 256) ∷ n ∷ []) high,
        record {
          octets_fit = subst (All (λ octet. octet < 256)) (sym front)
              (All-take (λ octet. octet < 256) (length octets - 2) octets fit);
          least = omega arith;
          most = omega arith;
        },
      )

  pub ends_fcs : (others : List ℕ) → frame ≡ take (length octets - 2) octets → sent ≡ drop (length octets - 2) octets
      → octets ≡ with_fcs others → get_or sent 0 0 + get_or sent 1 0 * 256 ≡ fcs_of frame
  unfolding with_fcs
  ends_fcs others front back whole =
      let same : frame ≡ others = front ∙ ap (λ xs. take (length xs - 2) xs) whole ∙ without_fcs others in
      let last : sent ≡ (fcs_of others % 256) ∷ (fcs_of others / 256) ∷ [] =
      back ∙ ap (λ xs. drop (length xs - 2) xs) whole
      ∙ drop_at others ((fcs_of others % 256) ∷ (fcs_of others / 256) ∷ []) _
      (omega (arith, length-append others ((fcs_of others % 256) ∷ (fcs_of others / 256) ∷ []))) in
      ap (λ xs. get_or xs 0 0 + get_or xs 1 0 * 256) last ∙ omega arith ∙ ap fcs_of (sym same)
