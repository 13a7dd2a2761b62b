-- Worked examples, computed on the definitions.
use Rattle.std.proofs.Common.{◌≡◌, ◌*◌, ℕ, pos, negsuc, List, [], ◌∷◌, length, take, refl}
use Rattle.tone_table.specs.Sine.{quarter, half_wave, cycle_sample, wave_sample}
use Rattle.tone_table.specs.Wave.{pure_window}
use Rattle.hdlc_framer.specs.BitOrder.{octet_bits}
use Rattle.hdlc_framer.specs.Body.{body}
use Rattle.hdlc_framer.specs.CheckSequence.{fcs_of}
use Rattle.hdlc_framer.specs.Frames.{with_fcs, frame_bits}
use Rattle.afsk_modulator.specs.Level.{sample_at, at_level}
use Rattle.afsk_modulator.specs.Transmission.{transmission, transmission_at}

-- SABM with P from N7LEM to NJ7P
abbrev shortest : List ℕ
shortest = 0x9C ∷ 0x94 ∷ 0x6E ∷ 0xA0 ∷ 0x40 ∷ 0x40 ∷ 0xE0 ∷ 0x9C ∷ 0x6E ∷ 0x98 ∷ 0x8A ∷ 0x9A ∷ 0x40 ∷ 0x61 ∷ 0x3F ∷ []

-- it has 162 bits between two flags and one, of eight samples each
shortest_length : length (transmission (shortest ∷ []) 2 1) ≡ 8 * 162
unfolding fcs_of octet_bits with_fcs frame_bits body transmission pure_window
shortest_length = refl

-- the first bit of the first flag is a space from phase 0 on
first_window : take 8 (transmission (shortest ∷ []) 2 1)
    ≡ pos 0 ∷ pos 9914 ∷ pos 2588 ∷ negsuc 9238 ∷ negsuc 4999 ∷ pos 7934 ∷ pos 7071 ∷ negsuc 6087 ∷ []
unfolding fcs_of octet_bits with_fcs frame_bits body transmission pure_window wave_sample cycle_sample half_wave quarter
first_window = refl

-- at level 10 the same window, a thousandth of it and rounded towards zero
quiet_window : take 8 (transmission_at 0 10 (shortest ∷ []) 2 1)
    ≡ pos 0 ∷ pos 9 ∷ pos 2 ∷ negsuc 8 ∷ negsuc 4 ∷ pos 7 ∷ pos 7 ∷ negsuc 5 ∷ []
unfolding fcs_of octet_bits with_fcs frame_bits body transmission_at at_level sample_at pure_window wave_sample
    cycle_sample half_wave quarter
quiet_window = refl
