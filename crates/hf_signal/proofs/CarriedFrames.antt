-- Each frame of carried transmissions is a candidate, exactly at its true end: the slicer whose windows are those of
-- the transmission hears it.
use Rattle.std.proofs.Common.{◌≡◌, ℕ, ◌+◌, ◌*◌, ◌/◌, ◌%◌, ℤ, Bool, List, ◌++◌, length, ap, subst, ◌∙◌}
use Rattle.std.proofs.Common.{arith, append_assoc}
use Rattle.std.specs.List.{AllByRecursion}
use Rattle.nrzi_bits.specs.Line.{line, last_tone}
use Rattle.hdlc_framer.specs.Stuffing.{flag}
use Rattle.hdlc_framer.specs.Frames.{IsFrame}
use Rattle.frame_merge.specs.declared.candidate.Candidate.{Candidate}
use Rattle.hf_modem.specs.Windows.{tones_at, bits}
use Rattle.hf_modem.proofs.WindowLemmas.{length-bits, bits-aligned}
use Rattle.hf_modem.specs.Candidates.{IsCandidate, candidate_at}
use Rattle.hf_modem.proofs.CandidateLemmas.{candidate_more}
use Rattle.afsk_modulator.specs.Signal.{Transmission}
use Rattle.clean_signal.specs.declared.true_end.TrueEnd.{TrueEnd}
use Rattle.clean_signal.specs.GoodTransmission.{IsTransmission}
use Rattle.hf_signal.specs.TrueEnds.{true_ends_from}
use Rattle.hf_signal.specs.Carried.{Carries, CarriesAll}
use Rattle.clean_signal.proofs.FrameBits.{upto, flag_tail, frame_ends}
use Rattle.clean_signal.proofs.FoundFrames.{all_found_by}

-- some slicer hears a frame at its true end
abbrev pub IsFound : List ℤ → TrueEnd → Type 0
IsFound x sent = (offset : ℕ) × IsCandidate x (candidate_at sent.end offset sent.octets)

-- if windows carry a frame and the flags before and after it, the frame is a candidate
frame_found : (p part rest : List ℤ) (octets : List ℕ) (mid post : List Bool) → IsFrame octets
    → Carries (line (flag ++ (upto mid octets ++ post))) part
    → IsFound (p ++ (part ++ rest))
    (record { end = length p + 32 * length (flag ++ upto mid octets); octets = octets })
frame_found p part rest octets mid post fits carries =
    let offset : ℕ = length p % 32 in
    let q : ℕ = length p / 32 in
    let item : Candidate = candidate_at (length p + 32 * length (flag ++ upto mid octets)) offset octets in
    let index : ℕ = length (bits offset p) + length (flag_tail ++ upto mid octets) in
    let ends = frame_ends (bits offset (p ++ part)) (bits offset p) (last_tone (tones_at offset p)) (tones_at 0 part)
    mid post octets fits (bits-aligned offset q p part (omega arith)) carries.decided in
    let count : length (bits offset p) ≡ q = length-bits offset p ∙ omega arith in
    let end : length p + 32 * length (flag ++ upto mid octets) ≡ offset + 32 * (index + 1) = omega arith in
    let heard : IsCandidate (p ++ part) item = record {
      offset = omega arith;
      index = index;
      ends = record { within = ends.0; end_of = ap (λ n. n / 4) end; frame = ends.1 };
    } in
    (offset, subst (λ x. IsCandidate x item) (append_assoc p part rest) (candidate_more (p ++ part) rest item heard))

-- each frame of carried transmissions is a candidate at its true end, whatever stands before them
pub all_found : (transmissions : List Transmission) (p x : List ℤ) (begin : ℕ)
    → AllByRecursion IsTransmission transmissions → CarriesAll transmissions x
    → begin ≡ length p → AllByRecursion (IsFound (p ++ x)) (true_ends_from begin transmissions)
all_found = all_found_by 32 IsFound Carries (λ tones part carries. carries.size) frame_found
