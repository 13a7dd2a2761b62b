-- Worked examples, computed on the definitions.
use Rattle.fx25_blocks.proofs.Common.{◌≡◌, ℕ, List, [], ◌∷◌, refl, differing, tag_bits, bits_of_64}
use Rattle.fx25_blocks.proofs.Common.{tag_value, data_count, sent_bits, octet_bits, frame_bits, with_fcs, fcs_of}
use Rattle.fx25_blocks.proofs.Common.{bits_needed, data_bits, padded}

-- N7LEM>APRS:hello
abbrev hello : List ℕ
hello =
    0x82 ∷ 0xA0 ∷ 0xA4 ∷ 0xA6 ∷ 0x40 ∷ 0x40 ∷ 0xE0 ∷ 0x9C ∷ 0x6E ∷ 0x98 ∷ 0x8A ∷ 0x9A ∷ 0x40 ∷ 0xE1 ∷ 0x03 ∷ 0xF0
    ∷ 0x68 ∷ 0x65 ∷ 0x6C ∷ 0x6C ∷ 0x6F ∷ []

hello_needs : bits_needed hello ≡ 201
unfolding fcs_of octet_bits with_fcs frame_bits
hello_needs = refl

-- The frame has one inserted zero, so the flags after it stand one bit late.
hello_data : data_bits 4 hello ≡ sent_bits (0x7E ∷ 0x82 ∷ 0xA0 ∷ 0xA4 ∷ 0xA6 ∷ 0x40 ∷ 0x40 ∷ 0xE0 ∷ 0x9C ∷ 0x6E
    ∷ 0x98 ∷ 0x8A ∷ 0x9A ∷ 0x40 ∷ 0xE1 ∷ 0x03 ∷ 0xE0 ∷ 0xD1 ∷ 0xCA ∷ 0xD8 ∷ 0xD8 ∷ 0xDE ∷ 0x30 ∷ 0x84 ∷ 0xFD
    ∷ 0xFC ∷ 0xFC ∷ 0xFC ∷ 0xFC ∷ 0xFC ∷ 0xFC ∷ 0xFC ∷ [])
unfolding fcs_of octet_bits with_fcs frame_bits data_bits padded data_count
hello_data = refl

-- the tag with 32 data octets and 16 check octets
hello_tag : tag_bits 4 ≡ sent_bits (0xEE ∷ 0x60 ∷ 0x96 ∷ 0x36 ∷ 0xB4 ∷ 0x6E ∷ 0x05 ∷ 0x8F ∷ [])
unfolding octet_bits bits_of_64 tag_value
hello_tag = refl

two_tags : differing (tag_bits 4) (tag_bits 8) ≡ 32
unfolding bits_of_64 tag_value
two_tags = refl
