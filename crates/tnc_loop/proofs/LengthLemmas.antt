-- How long a signal that is drawn can be.
use Rattle.tnc_loop.proofs.Common.{◌≡◌, ℕ, zero, suc, ◌+◌, ◌*◌, ◌%◌, ◌^◌, ◌<◌, ◌≤◌, Bool, true, false, List, [], ◌∷◌}
use Rattle.tnc_loop.proofs.Common.{◌++◌, length, ap, ◌∙◌, arith, length-append, mod-lt, flat_map-cons, Lcg}
use Rattle.tnc_loop.proofs.Common.{Transmission, samples_of, signal, sample_count, length-samples_of, LoopWords}
use Rattle.tnc_loop.proofs.Common.{loop_generator, word_at, length_drawn, octets_drawn, transmission_drawn}
use Rattle.tnc_loop.proofs.Common.{after_transmission, heard_of, after_heard, all_heard, heard_drawn, sent_of}
use Rattle.hdlc_framer.specs.BitOrder.{sent_bits}
use Rattle.hdlc_framer.specs.Body.{flags, body}
use Rattle.hdlc_framer.specs.Counted.{stuffed_from}
use Rattle.hdlc_framer.specs.Frames.{with_fcs, frame_bits}
use Rattle.hdlc_framer.specs.Stuffing.{stuffed}
use Rattle.hdlc_framer.proofs.BitLemmas.{length-sent_bits}
use Rattle.hdlc_framer.proofs.FrameEnds.{length-with_fcs}
use Rattle.hdlc_framer.proofs.StuffingLemmas.{stuffed_is}
use Rattle.clean_signal.proofs.FrameBits.{length-flags}
use Rattle.tnc_loop.proofs.HeardLemmas.{transmission-heard}
use Rattle.tnc_loop.proofs.DrawingLemmas.{length-octets_drawn, length_drawn-most}

-- inserted zeros at most double a list
stuffed_from-most : (bits : List Bool) (left : ℕ) → length (stuffed_from bits left) ≤ 2 * length bits
stuffed_from-most [] left = omega arith
stuffed_from-most (false ∷ bits) left = omega (arith, stuffed_from-most bits 4)
stuffed_from-most (true ∷ bits) zero = omega (arith, stuffed_from-most bits 4)
stuffed_from-most (true ∷ bits) (suc left) = omega (arith, stuffed_from-most bits left)

frame_bits-most : (octets : List ℕ) → length (frame_bits octets) ≤ 16 * (length octets + 2)
unfolding frame_bits
frame_bits-most octets =
    let sent : List Bool = sent_bits (with_fcs octets) in
    let same : length (stuffed sent) ≡ length (stuffed_from sent 4) = ap length (stuffed_is sent) in
    omega (arith, stuffed_from-most sent 4, length-sent_bits (with_fcs octets), length-with_fcs octets)

length-body_of : (octets : List ℕ) (opening closing : ℕ) → length (body (octets ∷ []) opening closing)
    ≡ 8 * opening + length (frame_bits octets) + 8 * closing
unfolding body
length-body_of octets opening closing =
    omega (
      arith,
      length-append (flags opening) (frame_bits octets ++ flags closing),
      length-append (frame_bits octets) (flags closing),
      length-flags opening,
      length-flags closing,
    )

-- a transmission has fewer than 2^17 samples
transmission-most : (g : Lcg) → sample_count (transmission_drawn g) ≤ 131072
unfolding transmission_drawn
transmission-most g =
    let silence : word_at 0 g % 64 < 64 = mod-lt (word_at 0 g) (omega arith) in
    let opening : word_at 1 g % 4 < 4 = mod-lt (word_at 1 g) (omega arith) in
    let closing : word_at 2 g % 3 < 3 = mod-lt (word_at 2 g) (omega arith) in
    let size : length (octets_drawn g) ≡ length_drawn g = length-octets_drawn g in
    let most : length_drawn g ≤ 1000 = length_drawn-most g in
    let bits = length-body_of (octets_drawn g) (2 + word_at 1 g % 4) (1 + word_at 2 g % 3) in
    let frame = frame_bits-most (octets_drawn g) in
    omega arith

transmissions-most : (rough : Bool) (count : ℕ) (g : Lcg) → length (signal (sent_of (all_heard rough count g)))
    ≤ 131072 * count
unfolding signal
transmissions-most rough zero g = omega arith
transmissions-most rough (suc count) g =
    let t : Transmission = transmission_drawn g in
    let next : Lcg = after_heard rough t (after_transmission g) in
    let others : List Transmission = sent_of (all_heard rough count next) in
    let first : Transmission = (heard_of rough t (after_transmission g)).received.transmission in
    let all : length (signal (first ∷ others)) ≡ sample_count t + length (signal others)
    = ap length (flat_map-cons samples_of first others)
    ∙ length-append (samples_of first) (signal others)
    ∙ ap (λ u. length (samples_of u) + length (signal others)) (transmission-heard rough t (after_transmission g))
    ∙ ap (λ n. n + length (signal others)) (length-samples_of t) in
    omega (arith, all, transmission-most g, transmissions-most rough count next)

-- a bank takes them all
pub signal_fits : (words : LoopWords) → words.frames ≤ 65535 → length (signal (sent_of (heard_drawn words))) < 2 ^ 48
unfolding heard_drawn
signal_fits words few =
    let most = transmissions-most words.rough words.frames (loop_generator words.seed) in omega arith
