-- Bits with which nothing ends, while a reader of blocks rests.
use Rattle.fx25_receiver.proofs.Common.{◌≡◌, ℕ, zero, suc, ◌+◌, ◌*◌, ◌/◌, ◌<◌, ◌≤◌, Bool, false, List, [], ◌∷◌, ◌++◌}
use Rattle.fx25_receiver.proofs.Common.{length, take, drop, replicate, ap, refl, sym, subst, ◌∙◌, arith, inl, inr}
use Rattle.fx25_receiver.proofs.Common.{append_assoc, cases_lt, IsTag}
use Rattle.fx25_receiver.proofs.Common.{◌-◌, true, sent_bits, length-append, EndsFrame}
use Rattle.fx25_receiver.proofs.Common.{◌%◌, length_push, EndsUnsureBlock}
use Rattle.std.proofs.Common.{◌^◌, ◌↔◌, bit_and, eqb, fold, None, Option, Some, pow-suc}
use Rattle.std.proofs.Math.Nat.{div-div-eq-div-mul}
use Rattle.std.proofs.lemmas.List.{drop-append-le, drop-drop, length-drop, take-append-drop}
use Rattle.std.proofs.Math.Seq.{drop-append-add}
use Rattle.hdlc_framer.specs.BitOrder.{low_bits}
unfoldable use Rattle.hdlc_framer.specs.BitOrder.{octet_bits}
use Rattle.hdlc_framer.specs.Late.{last_eight}
use Rattle.hdlc_framer.specs.Frames.{frame_bits, with_fcs}
use Rattle.hdlc_framer.specs.Held.{flag_start, line_after, next_line, open_line}
use Rattle.hdlc_framer.specs.Stuffing.{flag}
use Rattle.hdlc_framer.proofs.BitLemmas.{length-low_bits, length-sent_bits, low_bits-more}
use Rattle.hdlc_framer.proofs.FrameEnds.{frame_told, length-with_fcs, line_after-append}
use Rattle.hdlc_framer.proofs.LateLemmas.{flag_last}
use Rattle.hdlc_framer.proofs.Lines.{after_flag, flag_front}
unfoldable use Rattle.fx25_blocks.specs.Held.{after_zeros}
use Rattle.fx25_blocks.specs.Tags.{differing, tag_bits}
unfoldable use Rattle.fx25_blocks.specs.Tags.{bits_of_64}
use Rattle.fx25_blocks.specs.declared.block_reader.BlockReader.{BlockReader}
use Rattle.fx25_blocks.proofs.ReaderLemmas.{register_push}
use Rattle.fx25_receiver.specs.Ahead.{NoBlockEnds}
use Rattle.fx25_receiver.specs.Resting.{IsLast64, RestsAt}
use Rattle.fx25_receiver.specs.declared.resting_reader.RestingReader.{RestingReader}
use Rattle.fx25_receiver.proofs.RestingLemmas.{awake_for_unsure, no_tag, taken_resting}

-- the bits of a number past so many
drop-low_bits : (k m total n : ℕ) → total ≡ k + m → drop k (low_bits total n) ≡ low_bits m (n / 2 ^ k)
drop-low_bits zero m total n is =
    let same : total ≡ m = omega (arith, is) in
    let whole : n ≡ n / 2 ^ 0 = omega arith in
    ap (λ t. low_bits t n) same ∙ ap (low_bits m) whole
drop-low_bits (suc k) m zero n is = absurd (omega arith)
drop-low_bits (suc k) m (suc total) n is =
    let rest : total ≡ k + m = omega (arith, is) in
    let power : 2 * 2 ^ k ≡ 2 ^ suc k = omega (arith, pow-suc 2 k) in
    drop-low_bits k m total (n / 2) rest
    ∙ ap (low_bits m) (div-div-eq-div-mul n 2 (2 ^ k) ∙ ap (λ p. n / p) power)

-- the last of the last 64 bits
last_of_64 : (k m register : ℕ) (b : List Bool) → 64 ≡ k + m → bits_of_64 register ≡ drop (length b) (after_zeros b)
    → low_bits m (register / 2 ^ k) ≡ drop (length b) (drop k (replicate 64 false ++ b))
unfolding bits_of_64 after_zeros
last_of_64 k m register b is last =
    let sum : length b + k ≡ k + length b = omega arith in
    sym (drop-low_bits k m 64 register is) ∙ ap (drop k) last ∙ drop-drop k (length b) (replicate 64 false ++ b)
    ∙ ap (λ n. drop n (replicate 64 false ++ b)) sum
    ∙ sym (drop-drop (length b) k (replicate 64 false ++ b))

pub last_octet : (register : ℕ) (b : List Bool) → bits_of_64 register ≡ drop (length b) (after_zeros b)
    → octet_bits (register / 2 ^ 56) ≡ last_eight b
unfolding octet_bits
last_octet register b last = last_of_64 56 8 register b refl last

-- ---- two flags in a row

-- what a line holds before the last bit of a flag that follows another
abbrev held_at_second : List Bool
held_at_second = false ∷ true ∷ true ∷ true ∷ true ∷ true ∷ []

too_short : (front : List Bool) (octets : List ℕ) → EndsFrame (((front ++ flag) ++ flag_front) ++ false ∷ []) octets → ⊥
too_short front octets ends =
    let closes = (frame_told ((front ++ flag) ++ flag_front) false octets ends).2 in
    let line : line_after ((front ++ flag) ++ flag_front) ≡ fold next_line open_line flag_front =
    line_after-append (front ++ flag) flag_front
    ∙ ap (λ l. fold next_line l flag_front) (line_after-append front flag ∙ after_flag (line_after front)) in
    let content : Some held_at_second ≡ Some (sent_bits (with_fcs octets) ++ flag_start) =
    sym (ap (λ l. l.content) line) ∙ closes.content in
    let same = ap (λ o. size_of o) content in
    omega (
      arith,
      same,
      length-append (sent_bits (with_fcs octets)) flag_start,
      length-sent_bits (with_fcs octets),
      length-with_fcs octets,
      closes.frame.least,
    )
  where
    size_of : Option (List Bool) → ℕ
    size_of None = 0
    size_of (Some bits) = length bits

-- a frame does not end with the second of two flags in a row
no_frame_at_second : (b : List Bool) (octets : List ℕ) → drop (length b) (drop 48 (replicate 64 false ++ b)) ≡ flag ++ flag
    → EndsFrame b octets → ⊥
no_frame_at_second b octets last ends =
    let front : List Bool = take (length b - 16) b in
    let place : length b ≡ 16 + (length b - 16) = omega (
      arith,
      ap length ends.1,
      length-append ends.0 (flag ++ (frame_bits octets ++ flag)),
      length-append flag (frame_bits octets ++ flag),
      length-append (frame_bits octets) flag,
    ) in
    let back : drop (length b - 16) b ≡ flag ++ flag = sym (ap (λ n. drop n (replicate 16 false ++ b)) place
    ∙ drop-append-add (replicate 16 false) b (length b - 16)) ∙ last in
    let whole : b ≡ ((front ++ flag) ++ flag_front) ++ false ∷ [] = sym (take-append-drop (length b - 16) b)
    ∙ ap (λ xs. front ++ xs) back ∙ sym (append_assoc front flag flag)
    ∙ sym (append_assoc (front ++ flag) flag_front (false ∷ [])) in
    too_short front octets (subst (λ xs. EndsFrame xs octets) whole ends)

-- the last of 64 bits ends a frame only if they end with a flag that follows no other
no_frame : (register : ℕ) (b : List Bool) (octets : List ℕ) → register < 2 ^ 64
    → bits_of_64 register ≡ drop (length b) (after_zeros b)
    → (register / 2 ^ 56 ≡ 126 → register / 2 ^ 48 ≡ 32382) → EndsFrame b octets → ⊥
no_frame register b octets fits last two ends =
    let flag_is : register / 2 ^ 56 ≡ 126 = flag_last b octets (register / 2 ^ 56) (omega arith)
    (last_octet register b last) ends in
    no_frame_at_second b octets
    (sym (last_of_64 48 16 register b refl last) ∙ ap (low_bits 16) (two flag_is)) ends

-- ---- one bit more

-- the first bits of a number
take-low_bits : (k m n : ℕ) → k ≤ m → take k (low_bits m n) ≡ low_bits k n
take-low_bits zero m n within = refl
take-low_bits (suc k) zero n within = absurd (omega arith)
take-low_bits (suc k) (suc m) n within = ap (λ xs. eqb (n % 2) 1 ∷ xs) (take-low_bits k m (n / 2) (omega arith))

-- the last eight of the last 64 bits
pub octet_more : (register next : ℕ) (bit : Bool) → bits_of_64 next ≡ drop 1 (bits_of_64 register) ++ bit ∷ []
    → octet_bits (next / 2 ^ 56) ≡ drop 1 (octet_bits (register / 2 ^ 56)) ++ bit ∷ []
unfolding octet_bits bits_of_64
octet_more register next bit shifted =
    sym (drop-low_bits 56 8 64 next refl) ∙ ap (drop 56) shifted
    ∙ drop-append-le 56 (drop 1 (low_bits 64 register)) (bit ∷ [])
    (omega (arith, length-drop 1 (low_bits 64 register), length-low_bits 64 register))
    ∙ ap (λ xs. xs ++ bit ∷ []) (drop-drop 56 1 (low_bits 64 register) ∙ sym (drop-drop 1 56 (low_bits 64 register))
    ∙ ap (drop 1) (drop-low_bits 56 8 64 register refl))

last_64_more : (register next : ℕ) (b : List Bool) (bit : Bool)
    → bits_of_64 next ≡ drop 1 (bits_of_64 register) ++ bit ∷ [] → IsLast64 register b → IsLast64 next (b ++ bit ∷ [])
last_64_more register next b bit shifted last =
    shifted ∙ ap (λ xs. drop 1 xs ++ bit ∷ []) last ∙ sym (register_push b bit)
    ∙ ap (λ n. drop n (after_zeros (b ++ bit ∷ []))) (sym (length_push b bit))

-- the next bit of an octet
abbrev bit_of : ℕ → ℕ → Bool
bit_of octet place = eqb (bit_and (octet / 2 ^ place) 1) 1

one_bit_on : (b : List Bool) (octet place : ℕ)
    → (b ++ low_bits place octet) ++ bit_of octet place ∷ [] ≡ b ++ low_bits (place + 1) octet
one_bit_on b octet place =
    append_assoc b (low_bits place octet) (eqb (bit_and (octet / 2 ^ place) 1) 1 ∷ [])
    ∙ ap (λ xs. b ++ xs) (sym (low_bits-more place octet))

first_of_octet : (octet place : ℕ) → place < 8 → low_bits (place + 1) octet ≡ take (place + 1) (octet_bits octet)
unfolding octet_bits
first_of_octet octet place below = sym (take-low_bits (place + 1) 8 octet (omega arith))

-- a bit with which no tag ends
pub far_more : (reader : BlockReader) (register next near place octet : ℕ) (b : List Bool) → place < 8
    → bits_of_64 next ≡ drop 1 (bits_of_64 register) ++ eqb (bit_and (octet / 2 ^ place) 1) 1 ∷ [] → near ≡ 0
    → ((tag : ℕ) → IsTag tag → ((near ≡ tag) ↔ (differing (bits_of_64 next) (tag_bits tag) ≤ 12)))
    → RestsAt register reader (b ++ low_bits place octet) × NoBlockEnds place b octet
    → RestsAt next reader (b ++ low_bits (place + 1) octet) × NoBlockEnds (place + 1) b octet
far_more reader register next near place octet b below shifted none near_is so_far =
    let bit : Bool = bit_of octet place in
    let was : RestingReader = record { reader = reader; register = register; awake = 0 } in
    let now : RestingReader = record { reader = reader; register = next; awake = 0 } in
    let bits : List Bool = b ++ low_bits place octet in
    let stands : RestsAt next reader (b ++ low_bits (place + 1) octet) =
    subst (RestsAt next reader) (one_bit_on b octet place)
    (no_tag now (bits ++ bit ∷ []) near none near_is (taken_resting was next bits bit refl shifted so_far.0)) in (
      stands,
      λ k tag numbers frame over within ends. elim (cases_lt k place) [
        | inl before ↦ so_far.1 k tag numbers frame over before ends
        | inr past ↦
            let same : k ≡ place = omega arith in
            let first : take (k + 1) (octet_bits octet) ≡ low_bits (place + 1) octet =
            ap (λ n. take (n + 1) (octet_bits octet)) same ∙ sym (first_of_octet octet place below) in
            let awake : 0 < 0 = awake_for_unsure now (b ++ low_bits (place + 1) octet) stands numbers tag frame over
            (subst (λ xs. EndsUnsureBlock (b ++ xs) numbers tag frame over) first ends) in
            absurd (omega arith)
      ],
    )

-- no frame ends with any of the first so many bits of an octet
abbrev pub NoFrameEnds : ℕ → List Bool → ℕ → Type 0
NoFrameEnds count b octet = (k : ℕ) (octets : List ℕ) → k < count
    → ¬ EndsFrame (b ++ take (k + 1) (octet_bits octet)) octets

-- a bit with which no frame can end
pub frameless_more : (register next place octet : ℕ) (b : List Bool) → place < 8 → next < 2 ^ 64
    → bits_of_64 next ≡ drop 1 (bits_of_64 register) ++ eqb (bit_and (octet / 2 ^ place) 1) 1 ∷ []
    → (next / 2 ^ 56 ≡ 126 → next / 2 ^ 48 ≡ 32382)
    → IsLast64 register (b ++ low_bits place octet) × NoFrameEnds place b octet
    → IsLast64 next (b ++ low_bits (place + 1) octet) × NoFrameEnds (place + 1) b octet
frameless_more register next place octet b below fits shifted two so_far =
    let last : IsLast64 next (b ++ low_bits (place + 1) octet) =
    subst (IsLast64 next) (one_bit_on b octet place)
    (last_64_more register next (b ++ low_bits place octet) (bit_of octet place) shifted so_far.0) in (
      last,
      λ k octets within ends. elim (cases_lt k place) [
        | inl before ↦ so_far.1 k octets before ends
        | inr past ↦
            let same : k ≡ place = omega arith in
            let first : take (k + 1) (octet_bits octet) ≡ low_bits (place + 1) octet =
            ap (λ n. take (n + 1) (octet_bits octet)) same ∙ sym (first_of_octet octet place below) in
            no_frame next (b ++ low_bits (place + 1) octet) octets fits last two
            (subst (λ xs. EndsFrame (b ++ xs) octets) first ends)
      ],
    )
