-- The bits of a transmission: its flags, and its frames, each with a flag.
use Rattle.clean_signal.proofs.Common.{◌≡◌, ℕ, zero, suc, ◌+◌, ◌*◌, ◌<◌, ◌≤◌, Bool, true, false, List, [], ◌∷◌, ◌++◌}
use Rattle.clean_signal.proofs.Common.{length, take, refl, ap, sym, subst, ◌∙◌, arith, length-append, append_assoc}
use Rattle.clean_signal.proofs.Common.{Tone, Mark, line, flags, body, IsFrame, with_fcs, frame_bits, flag}
use Rattle.std.proofs.Common.{add-one}
use Rattle.std.proofs.lemmas.List.{take_at}
use Rattle.nrzi_bits.specs.Line.{sent_tone, same_tone, bits_from}
use Rattle.nrzi_bits.proofs.LineLemmas.{bits_from-line_from}
use Rattle.hdlc_framer.specs.BitOrder.{sent_bits}
use Rattle.hdlc_framer.specs.Body.{joined}
use Rattle.hdlc_framer.specs.Counted.{stuffed_from}
use Rattle.hdlc_framer.specs.Frames.{EndsFrame}
use Rattle.hdlc_framer.specs.Stuffing.{stuffed}
use Rattle.hdlc_framer.proofs.BitLemmas.{length-sent_bits}
use Rattle.hdlc_framer.proofs.FrameEnds.{length-with_fcs}
use Rattle.hdlc_framer.proofs.StuffLemmas.{flags-more}
use Rattle.hdlc_framer.proofs.StuffingLemmas.{stuffed_is}

-- ---- one frame

-- bits up to the flag after a frame
abbrev pub upto : List Bool → List ℕ → List Bool
upto mid octets = mid ++ (flag ++ (frame_bits octets ++ flag))

-- a flag without its first bit, which may be lost
abbrev pub flag_tail : List Bool
flag_tail = true ∷ true ∷ true ∷ true ∷ true ∷ true ∷ false ∷ []

-- If the bits heard after some are those of tones that carry a frame and the flags before and after it, the frame ends
-- there. The first bit of the first flag, which the tone before it decides, may be lost.
pub frame_ends : (heard before : List Bool) (last : Tone) (tones : List Tone) (mid post : List Bool) (octets : List ℕ)
    → IsFrame octets → heard ≡ before ++ bits_from last tones → tones ≡ line (flag ++ (upto mid octets ++ post))
    → (length before + length (flag_tail ++ upto mid octets) < length heard)
    × EndsFrame (take ((length before + length (flag_tail ++ upto mid octets)) + 1) heard) octets
frame_ends heard before last tones mid post octets fits is carried =
    let c : Bool = same_tone last (sent_tone Mark false) in
    let tail : List Bool = flag_tail ++ upto mid octets in
    let sent : heard ≡ before ++ c ∷ (tail ++ post) = is
    ∙ ap (λ ts. before ++ bits_from last ts) carried
    ∙ ap (λ bs. before ++ c ∷ bs) (bits_from-line_from (sent_tone Mark false) (tail ++ post)) in
    let front : List Bool = before ++ c ∷ tail in
    let parts : heard ≡ front ++ post = sent ∙ sym (append_assoc before (c ∷ tail) post) in
    let size : length front ≡ (length before + length tail) + 1 = omega (arith, length-append before (c ∷ tail)) in
    let all : length heard ≡ length front + length post = ap length parts ∙ length-append front post in
    let cut : take ((length before + length tail) + 1) heard ≡ front
    = ap (take ((length before + length tail) + 1)) parts
    ∙ take_at front post ((length before + length tail) + 1) size in
    let ends : EndsFrame front octets = (before ++ (c ∷ (flag_tail ++ mid)), simp append_assoc, fits) in
    (omega arith, subst (λ b. EndsFrame b octets) (sym cut) ends)

-- inserted zeros make no list shorter
length-stuffed_from : (bits : List Bool) (left : ℕ) → length bits ≤ length (stuffed_from bits left)
length-stuffed_from [] left = omega arith
length-stuffed_from (false ∷ bits) left = omega (arith, length-stuffed_from bits 4)
length-stuffed_from (true ∷ bits) zero = omega (arith, length-stuffed_from bits 4)
length-stuffed_from (true ∷ bits) (suc left) = omega (arith, length-stuffed_from bits left)

-- a frame has at least the bits of 17 octets
pub length-frame_bits : (octets : List ℕ) → IsFrame octets → 136 ≤ length (frame_bits octets)
unfolding frame_bits
length-frame_bits octets fits =
    let sent : List Bool = sent_bits (with_fcs octets) in
    let same : length (stuffed sent) ≡ length (stuffed_from sent 4) = ap length (stuffed_is sent) in
    omega (arith, length-stuffed_from sent 4, length-sent_bits (with_fcs octets), length-with_fcs octets, fits.least)

-- ---- flags and frames

-- frames, each with a flag after it
abbrev pub closed : List (List ℕ) → List Bool
closed [] = []
closed (octets ∷ frames) = frame_bits octets ++ (flag ++ closed frames)

flags-last : (count : ℕ) → flags (suc count) ≡ flags count ++ flag
flags-last count = ap flags (sym (add-one count)) ∙ flags-more count

pub length-flags : (count : ℕ) → length (flags count) ≡ 8 * count
length-flags zero = refl
length-flags (suc count) = omega (arith, length-append flag (flags count), length-flags count)

-- frames with a flag between neighbours, and then a flag
joined-flag : (octets : List ℕ) (frames : List (List ℕ)) (rest : List Bool)
    → joined (octets ∷ frames) ++ (flag ++ rest) ≡ closed (octets ∷ frames) ++ rest
joined-flag octets [] rest = simp append_assoc
joined-flag octets (next ∷ frames) rest =
    append_assoc (frame_bits octets) (flag ++ joined (next ∷ frames)) (flag ++ rest)
    ∙ ap (λ b. frame_bits octets ++ b) (append_assoc flag (joined (next ∷ frames)) (flag ++ rest))
    ∙ ap (λ b. frame_bits octets ++ (flag ++ b)) (joined-flag next frames rest)
    ∙ ap (λ b. frame_bits octets ++ b) (sym (append_assoc flag (closed (next ∷ frames)) rest))
    ∙ sym (append_assoc (frame_bits octets) (flag ++ closed (next ∷ frames)) rest)

-- the body of some frames: a flag, others, the one before the frames, the frames each with a flag, the other closing
-- flags
pub body_shape : (octets : List ℕ) (frames : List (List ℕ)) (opening closing : ℕ)
    → body (octets ∷ frames) (suc (suc opening)) (suc closing)
    ≡ flag ++ (flags opening ++ (flag ++ (closed (octets ∷ frames) ++ flags closing)))
unfolding body
body_shape octets frames opening closing =
    ap (λ b. flags (suc (suc opening)) ++ b) (joined-flag octets frames (flags closing))
    ∙ ap (λ b. (flag ++ b) ++ (closed (octets ∷ frames) ++ flags closing)) (flags-last opening)
    ∙ simp append_assoc

-- the bits of a transmission are at least its opening flags and its frames, each with a flag
pub length-body : (frames : List (List ℕ)) (opening closing : ℕ) → 1 ≤ closing
    → 8 * opening + length (closed frames) ≤ length (body frames opening closing)
unfolding body
length-body [] opening closing some = omega (arith, length-append (flags opening) (flags closing), length-flags opening)
length-body (octets ∷ frames) opening zero some = absurd (omega arith)
length-body (octets ∷ frames) opening (suc closing) some =
    let whole : flags opening ++ (joined (octets ∷ frames) ++ flags (suc closing))
    ≡ flags opening ++ (closed (octets ∷ frames) ++ flags closing)
    = ap (λ b. flags opening ++ b) (joined-flag octets frames (flags closing)) in
    omega (
      arith,
      ap length whole,
      length-append (flags opening) (closed (octets ∷ frames) ++ flags closing),
      length-append (closed (octets ∷ frames)) (flags closing),
      length-flags opening,
    )
