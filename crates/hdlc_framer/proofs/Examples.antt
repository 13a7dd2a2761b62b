-- Worked examples, computed on the definitions.
use Rattle.hdlc_framer.proofs.Common.{◌≡◌, ℕ, true, false, List, [], ◌∷◌, ◌++◌, length, refl, octet_bits, sent_bits}
use Rattle.hdlc_framer.proofs.Common.{body, fcs_of, with_fcs, frame_bits, run_of_ones, stuffed}

-- the text 123456789
digits_fcs : fcs_of (49 ∷ 50 ∷ 51 ∷ 52 ∷ 53 ∷ 54 ∷ 55 ∷ 56 ∷ 57 ∷ []) ≡ 0x906E
unfolding fcs_of octet_bits
digits_fcs = refl

-- no octet
empty_fcs : fcs_of [] ≡ 0
unfolding fcs_of
empty_fcs = refl

-- SABM with P from N7LEM to NJ7P
abbrev shortest : List ℕ
shortest = 0x9C ∷ 0x94 ∷ 0x6E ∷ 0xA0 ∷ 0x40 ∷ 0x40 ∷ 0xE0 ∷ 0x9C ∷ 0x6E ∷ 0x98 ∷ 0x8A ∷ 0x9A ∷ 0x40 ∷ 0x61 ∷ 0x3F ∷ []

shortest_fcs : with_fcs shortest ≡ shortest ++ 0x96 ∷ 0xF9 ∷ []
unfolding fcs_of octet_bits with_fcs
shortest_fcs = refl

shortest_length : length (frame_bits shortest) ≡ 138
unfolding fcs_of octet_bits with_fcs frame_bits
shortest_length = refl

two_frames : length (body (shortest ∷ shortest ∷ []) 2 1) ≡ 308
unfolding fcs_of octet_bits with_fcs frame_bits body
two_frames = refl

-- two octets FF FF after a 0: a 0 after the 5th, the 10th and the 15th 1
ones_stuffed : stuffed (sent_bits (0xFF ∷ 0xFF ∷ []))
    ≡ true ∷ true ∷ true ∷ true ∷ true ∷ false ∷ true ∷ true ∷ true ∷ true ∷ true ∷ false ∷ true ∷ true ∷ true ∷ true
    ∷ true ∷ false ∷ true ∷ []
unfolding octet_bits
ones_stuffed = refl

seven_ones : run_of_ones (false ∷ true ∷ true ∷ true ∷ true ∷ true ∷ true ∷ true ∷ []) ≡ 7
seven_ones = refl
