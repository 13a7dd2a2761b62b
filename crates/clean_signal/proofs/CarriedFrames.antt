-- Each frame of carried transmissions is a candidate, exactly at its true end: the slicer whose windows are those of
-- the transmission hears it.
use Rattle.clean_signal.proofs.Common.{◌≡◌, ℕ, ◌+◌, ◌*◌, ◌/◌, ◌%◌, ℤ, Bool, List, ◌++◌, length, subst, ◌∙◌, arith}
use Rattle.clean_signal.proofs.Common.{append_assoc, AllByRecursion, line, flag, IsFrame, Candidate, candidate_at}
use Rattle.clean_signal.proofs.Common.{Transmission, TrueEnd, IsTransmission, true_ends_from, Carries, CarriesAll}
use Rattle.nrzi_bits.specs.Line.{last_tone}
use Rattle.offset_slicers.specs.Windows.{tones_at, bits}
use Rattle.offset_slicers.proofs.WindowLemmas.{length-bits, bits-aligned}
use Rattle.slicer_bank.specs.Candidates.{IsCandidate}
use Rattle.slicer_bank.proofs.CandidateLemmas.{candidate_more}
use Rattle.clean_signal.proofs.FrameBits.{upto, flag_tail, frame_ends}
use Rattle.clean_signal.proofs.FoundFrames.{all_found_by}

-- some slicer hears a frame at its true end
abbrev pub IsFound : List ℤ → TrueEnd → Type 0
IsFound x sent = (offset : ℕ) × IsCandidate x (candidate_at sent.end offset sent.octets)

-- if windows carry a frame and the flags before and after it, the frame is a candidate
frame_found : (p part rest : List ℤ) (octets : List ℕ) (mid post : List Bool) → IsFrame octets
    → Carries (line (flag ++ (upto mid octets ++ post))) part
    → IsFound (p ++ (part ++ rest))
    (record { end = length p + 8 * length (flag ++ upto mid octets); octets = octets })
frame_found p part rest octets mid post fits carries =
    let offset : ℕ = length p % 8 in
    let q : ℕ = length p / 8 in
    let item : Candidate = candidate_at (length p + 8 * length (flag ++ upto mid octets)) offset octets in
    let index : ℕ = length (bits offset p) + length (flag_tail ++ upto mid octets) in
    let ends = frame_ends (bits offset (p ++ part)) (bits offset p) (last_tone (tones_at offset p)) (tones_at 0 part)
    mid post octets fits (bits-aligned offset q p part (omega arith)) carries.decided in
    let count : length (bits offset p) ≡ q = length-bits offset p ∙ omega arith in
    let end : length p + 8 * length (flag ++ upto mid octets) ≡ offset + 8 * (index + 1) = omega arith in
    let heard : IsCandidate (p ++ part) item = record {
      offset = omega arith;
      index = index;
      ends = record { within = ends.0; end_of = end; frame = ends.1 };
    } in
    (offset, subst (λ x. IsCandidate x item) (append_assoc p part rest) (candidate_more (p ++ part) rest item heard))

-- each frame of carried transmissions is a candidate at its true end, whatever stands before them
pub all_found : (transmissions : List Transmission) (p x : List ℤ) (begin : ℕ)
    → AllByRecursion IsTransmission transmissions → CarriesAll transmissions x
    → begin ≡ length p → AllByRecursion (IsFound (p ++ x)) (true_ends_from begin transmissions)
all_found = all_found_by 8 IsFound Carries (λ tones part carries. carries.size) frame_found
