-- Worked examples, computed on the definitions.
use Rattle.std.proofs.Common.{◌≡◌, ℕ, pos, negsuc, List, [], ◌∷◌, take, true, false, refl}
use Rattle.tone_table.specs.Sine.{quarter, half_wave, cycle_sample, wave_sample}
use Rattle.hdlc_framer.specs.BitOrder.{octet_bits}
use Rattle.hdlc_framer.specs.Body.{body}
use Rattle.hdlc_framer.specs.CheckSequence.{fcs_of}
use Rattle.hdlc_framer.specs.Frames.{with_fcs, frame_bits}
use Rattle.frame_merge.specs.declared.candidate.Candidate.{Candidate}
use Rattle.afsk_modulator.specs.Level.{sample_at, at_level}
use Rattle.hf_sender.specs.Wave.{pure_window}
use Rattle.hf_sender.specs.Transmission.{hf_transmission}
use Rattle.hf_signal.specs.TrueEnds.{true_ends}
use Rattle.hf_signal.specs.Stray.{is_sent}

-- SABM with P from N7LEM to NJ7P
abbrev shortest : List ℕ
shortest = 0x9C ∷ 0x94 ∷ 0x6E ∷ 0xA0 ∷ 0x40 ∷ 0x40 ∷ 0xE0 ∷ 0x9C ∷ 0x6E ∷ 0x98 ∷ 0x8A ∷ 0x9A ∷ 0x40 ∷ 0x61 ∷ 0x3F ∷ []

-- its first samples at level 10000, those of a space from phase 0 on
first_samples : take 8 (hf_transmission 10000 (shortest ∷ []) 2 1)
    ≡ pos 0 ∷ pos 9239 ∷ pos 7071 ∷ negsuc 3826 ∷ negsuc 9999 ∷ negsuc 3826 ∷ pos 7071 ∷ pos 9239 ∷ []
unfolding fcs_of octet_bits with_fcs frame_bits body hf_transmission at_level sample_at pure_window wave_sample
    cycle_sample half_wave quarter
first_samples = refl

-- between two flags and one it is 162 bits, of 32 samples each, and its flag ends with the last of them
shortest_end : true_ends (record { silence = 0; frames = shortest ∷ []; opening = 2; closing = 1 } ∷ [])
    ≡ record { end = 5184; octets = shortest } ∷ []
unfolding fcs_of octet_bits with_fcs frame_bits body
shortest_end = refl

abbrev heard : ℕ → ℕ → Candidate
heard end offset = record { end = end; offset = offset; octets = shortest }

-- 29 samples early it is the frame, and 30 samples early it is stray
just_early : is_sent (record { end = 5184; octets = shortest } ∷ []) (heard 1288 3) ≡ true
just_early = refl

too_early : is_sent (record { end = 5184; octets = shortest } ∷ []) (heard 1288 2) ≡ false
too_early = refl
