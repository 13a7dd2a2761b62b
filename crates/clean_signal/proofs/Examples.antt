-- Worked examples, computed on the definitions.
use Rattle.clean_signal.proofs.Common.{◌≡◌, ℕ, pos, List, [], ◌∷◌, true, false, length, refl, body, with_fcs}
use Rattle.clean_signal.proofs.Common.{frame_bits, Candidate, pure_window, distance, transmission, Transmission, signal}
use Rattle.clean_signal.proofs.Common.{TrueEnd, body_of, true_ends, is_sent}
use Rattle.hdlc_framer.specs.BitOrder.{octet_bits}
use Rattle.hdlc_framer.specs.CheckSequence.{fcs_of}

-- SABM with P from N7LEM to NJ7P
abbrev shortest : List ℕ
shortest = 0x9C ∷ 0x94 ∷ 0x6E ∷ 0xA0 ∷ 0x40 ∷ 0x40 ∷ 0xE0 ∷ 0x9C ∷ 0x6E ∷ 0x98 ∷ 0x8A ∷ 0x9A ∷ 0x40 ∷ 0x61 ∷ 0x3F ∷ []

abbrev sent : ℕ → List (List ℕ) → ℕ → ℕ → Transmission
sent silence frames opening closing = record {
  silence = silence;
  frames = frames;
  opening = opening;
  closing = closing;
}

abbrev ends_at : ℕ → TrueEnd
ends_at end = record { end = end; octets = shortest }

abbrev heard : ℕ → ℕ → Candidate
heard end offset = record { end = end; offset = offset; octets = shortest }

-- between two flags and one it is 162 bits, of eight samples each, and its flag ends with the last of them
shortest_bits : length (body_of (sent 0 (shortest ∷ []) 2 1)) ≡ 162
unfolding fcs_of octet_bits with_fcs frame_bits body
shortest_bits = refl

shortest_signal : length (signal (sent 0 (shortest ∷ []) 2 1 ∷ [])) ≡ 1296
unfolding fcs_of octet_bits with_fcs frame_bits body transmission signal pure_window
shortest_signal = refl

shortest_end : true_ends (sent 0 (shortest ∷ []) 2 1 ∷ []) ≡ ends_at 1296 ∷ []
unfolding fcs_of octet_bits with_fcs frame_bits body
shortest_end = refl

-- After 100 silent samples one frame with three closing flags, 178 bits, and right after it, with three opening flags,
-- two frames with one flag between them: a frame and its flag take 146 bits.
three_ends : true_ends (sent 100 (shortest ∷ []) 2 3 ∷ sent 0 (shortest ∷ shortest ∷ []) 3 1 ∷ [])
    ≡ ends_at 1396 ∷ ends_at 2884 ∷ ends_at 4052 ∷ []
unfolding fcs_of octet_bits with_fcs frame_bits body
three_ends = refl

-- what the first slicer to hear it gives, at offset 6, is the frame; one bit and more away it would be stray
first_is_sent : is_sent (ends_at 1296 ∷ []) (heard 1294 6) ≡ true
first_is_sent = refl

one_bit_early : is_sent (ends_at 1296 ∷ []) (heard 1288 0) ≡ false
one_bit_early = refl

one_bit_late : is_sent (ends_at 1296 ∷ []) (heard 1304 0) ≡ false
one_bit_late = refl

none_sent : is_sent [] (heard 1294 6) ≡ false
none_sent = refl

-- At level 10 a wave sample of 9914 is 9.914, and a tenth of the level is 1: 9 and 10 are near it, and 8 and 11 are
-- not.
nine_is_near : distance 10 (pos 9914) (pos 9) ≡ 9140
nine_is_near = refl

eleven_is_far : distance 10 (pos 9914) (pos 11) ≡ 10860
eleven_is_far = refl
