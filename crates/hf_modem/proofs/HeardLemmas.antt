-- What is heard of one sample more.
use Rattle.hf_modem.proofs.Common.{◌≡◌, ℕ, ◌+◌, ◌/◌, ◌<◌, ℤ, List, [], ◌∷◌, ◌++◌, Option, Some, None, length, ap, sym}
use Rattle.hf_modem.proofs.Common.{◌∙◌, arith, subst, option_to_list, length_push, All-nil, EndsFrame, Candidate, bits}
use Rattle.hf_modem.proofs.Common.{EndsWindow, IsCandidate, AreCandidatesAfter, candidate_at, end_sample, IsHeard}
use Rattle.std.proofs.lemmas.List.Elements.{All-cons}
use Rattle.hdlc_framer.proofs.FrameEnds.{one_frame}
use Rattle.hf_modem.proofs.CandidateLemmas.{candidate_at_last, ends_with_last, end_within, end_sample-is}

module _ (offset : ℕ) (x : List ℤ) (sample : ℤ) (small : offset < 32) (window : EndsWindow offset (x ++ sample ∷ []))
  where
    abbrev pub all : List ℤ
    all = x ++ sample ∷ []

    -- a candidate that ends with the sample is one of this offset
    same_offset : (item : Candidate) → IsCandidate all item → end_sample item ≡ length all → item.offset ≡ offset
    same_offset item c e =
        let ends = ends_with_last all item c e in
        let here = window.1 in
        let there = ends.window.1 in
        let below = c.offset in
        omega arith

    -- the sample at which the frame of this offset ends
    ends_here : end_sample (candidate_at (length all) offset []) ≡ length all
    ends_here = let size = window.1 in omega arith

    one_heard : (octets : List ℕ) → EndsFrame (bits offset all) octets
        → AreCandidatesAfter (length x) all (candidate_at (length all) offset octets ∷ [])
    one_heard octets ends =
        let item : Candidate = candidate_at (length all) offset octets in
        let P : Candidate → Type 0 = λ i. IsCandidate all i × (length x < end_sample i) in
        let more : length all ≡ length x + 1 = length_push x sample in
        let here : end_sample item ≡ length all = ends_here in
        record {
          each = All-cons P item [] (
            candidate_at_last all item small here (record { window = window; frame = ends }),
            omega arith,
          ) (All-nil P);
          whole = λ other c after.
              let within = end_within all other c in
              let last : end_sample other ≡ length all = omega arith in
              let there : other.offset ≡ offset = same_offset other c last in
              let frame : EndsFrame (bits offset all) other.octets =
              subst (λ t. EndsFrame (bits t all) other.octets) there (ends_with_last all other c last).frame in
              let same : octets ≡ other.octets = (one_frame (bits offset all) octets other.octets ends frame).0 in
              let end : (length all) / 4 ≡ other.end = omega arith in
              let is : item ≡ other = ap (candidate_at (length all) offset) same
              ∙ ap (λ t. candidate_at (length all) t other.octets) (sym there)
              ∙ ap (λ t. record { end = t; offset = other.offset; octets = other.octets }) end in
              (0, omega arith, is);
          order = λ i j d ij jl. absurd (omega arith);
        }

    none_heard : ((o : List ℕ) → EndsFrame (bits offset all) o → ⊥) → AreCandidatesAfter (length x) all []
    none_heard never =
        let more : length all ≡ length x + 1 = length_push x sample in
        record {
          each = All-nil (λ i. IsCandidate all i × (length x < end_sample i));
          whole = λ other c after.
              let within = end_within all other c in
              let last : end_sample other ≡ length all = omega arith in
              absurd (never other.octets (subst (λ t. EndsFrame (bits t all) other.octets) (same_offset other c last)
              (ends_with_last all other c last).frame));
          order = λ i j d ij jl. absurd (omega arith);
        }

    -- what the lane hears is all that is heard with the sample
    pub lane_hears : (at : ℕ) (heard : Option Candidate) → at ≡ length all → IsHeard offset at (bits offset all) heard
        → AreCandidatesAfter (length x) all (option_to_list heard)
    lane_hears at None is h = none_heard h
    lane_hears at (Some item) is h =
        subst (λ i. AreCandidatesAfter (length x) all (i ∷ [])) (ap (λ n. candidate_at n offset h.0) (sym is) ∙ sym h.1)
        (one_heard h.0 h.2)

-- before the 32nd sample no window ends, and nothing is heard
pub nothing_heard : (x : List ℤ) (sample : ℤ) → length x + 1 < 32 → AreCandidatesAfter (length x) (x ++ sample ∷ []) []
nothing_heard x sample few =
    let all : List ℤ = x ++ sample ∷ [] in
    let more : length all ≡ length x + 1 = length_push x sample in
    record {
      each = All-nil (λ i. IsCandidate all i × (length x < end_sample i));
      whole = λ item c after. let within = end_within all item c in let end = end_sample-is all item c.index c.ends in
          absurd (omega arith);
      order = λ i j d ij jl. absurd (omega arith);
    }
