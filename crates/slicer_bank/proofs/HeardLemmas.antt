-- What is heard of one window, and of one sample more.
use Rattle.slicer_bank.proofs.Common.{◌≡◌, ℕ, ◌+◌, ◌<◌, ℤ, List, [], ◌∷◌, ◌++◌, Bool, length, map, ap, sym, ◌∙◌, arith}
use Rattle.slicer_bank.proofs.Common.{refl, subst, All, append-nil, length_push, All-nil, All-cons, All-head, bits}
use Rattle.slicer_bank.proofs.Common.{EndsWindow, EndsFrame, Candidate, IsCandidate, AreCandidatesAfter, candidate_at}
use Rattle.slicer_bank.proofs.Common.{Adds}
use Rattle.slicer_bank.proofs.CandidateLemmas.{candidate_at_last, ends_with_last, end_within}

-- what was found is followed by the candidates that end in these samples, past those before them
pub record HearsMore (x more : List ℤ) (before after : List Candidate) : Type 0 where
  pub heard : List Candidate
  pub found : after ≡ before ++ heard
  pub are : AreCandidatesAfter (length x) (x ++ more) heard

-- a lane at which no frame ends adds nothing
pub adds_nothing : (offset end : ℕ) (b : List Bool) (before : List Candidate) → ((o : List ℕ) → EndsFrame b o → ⊥)
    → Adds offset end b before before
adds_nothing offset end b before never = record {
  octets = [];
  found = sym (append-nil before);
  each = All-nil (λ o. EndsFrame b o);
  whole = λ o ends. absurd (never o ends);
}

-- a lane at which one frame ends adds its candidate
pub adds_one : (offset end : ℕ) (b : List Bool) (before after : List Candidate) (octets : List ℕ)
    → after ≡ before ++ candidate_at end offset octets ∷ []
    → EndsFrame b octets
    → ((o : List ℕ) → EndsFrame b o → octets ≡ o)
    → Adds offset end b before after
adds_one offset end b before after octets is ends unique = record {
  octets = octets ∷ [];
  found = is;
  each = All-cons (λ o. EndsFrame b o) octets [] ends (All-nil (λ o. EndsFrame b o));
  whole = λ o e. ap (λ t. t ∷ []) (unique o e);
}

module _ (offset : ℕ) (x : List ℤ) (sample : ℤ) (small : offset < 8) (window : EndsWindow offset (x ++ sample ∷ []))
  where
    abbrev pub all : List ℤ
    all = x ++ sample ∷ []

    -- a candidate that ends with the sample is one of this offset
    same_offset : (item : Candidate) → IsCandidate all item → item.end ≡ length all → item.offset ≡ offset
    same_offset item c e =
        let ends = ends_with_last all item c e in
        let here = window.1 in
        let there = ends.window.1 in
        let below = c.offset in
        omega arith

    one_heard : (octets : List ℕ) → EndsFrame (bits offset all) octets
        → ((o : List ℕ) → EndsFrame (bits offset all) o → octets ≡ o)
        → AreCandidatesAfter (length x) all (candidate_at (length all) offset octets ∷ [])
    one_heard octets ends unique =
        let item : Candidate = candidate_at (length all) offset octets in
        let P : Candidate → Type 0 = λ i. IsCandidate all i × (length x < i.end) in
        let more : length all ≡ length x + 1 = length_push x sample in
        record {
          each = All-cons P item [] (
            candidate_at_last all item small refl (record { window = window; frame = ends }),
            omega arith,
          ) (All-nil P);
          whole = λ other c following.
              let within = end_within all other c in
              let last : other.end ≡ length all = omega arith in
              let there : other.offset ≡ offset = same_offset other c last in
              let frame : EndsFrame (bits offset all) other.octets =
              subst (λ t. EndsFrame (bits t all) other.octets) there (ends_with_last all other c last).frame in
              let is : item ≡ other = ap (candidate_at (length all) offset) (unique other.octets frame)
              ∙ ap (λ t. candidate_at (length all) t other.octets) (sym there)
              ∙ ap (λ t. candidate_at t other.offset other.octets) (sym last) in
              (0, omega arith, is);
          order = λ i j d ij jl. absurd (omega arith);
        }

    none_heard : ((o : List ℕ) → EndsFrame (bits offset all) o → ⊥) → AreCandidatesAfter (length x) all []
    none_heard never =
        let more : length all ≡ length x + 1 = length_push x sample in
        record {
          each = All-nil (λ i. IsCandidate all i × (length x < i.end));
          whole = λ other c following.
              let within = end_within all other c in
              let last : other.end ≡ length all = omega arith in
              absurd (never other.octets (subst (λ t. EndsFrame (bits t all) other.octets) (same_offset other c last)
              (ends_with_last all other c last).frame));
          order = λ i j d ij jl. absurd (omega arith);
        }

    -- what the lane adds is all that is heard with the sample
    pub lane_hears : (end : ℕ) (before after : List Candidate) → end ≡ length x + 1
        → Adds offset end (bits offset all) before after → HearsMore x (sample ∷ []) before after
    lane_hears end before after at h =
        let is : end ≡ length all = at ∙ sym (length_push x sample) in
        record {
          heard = map (candidate_at end offset) h.octets;
          found = h.found;
          are = subst (λ e. AreCandidatesAfter (length x) all (map (candidate_at e offset) h.octets)) (sym is)
              (by_count h.octets h.each h.whole);
        }
      where
        by_count : (octets : List (List ℕ)) → All (λ o. EndsFrame (bits offset all) o) octets
            → ((o : List ℕ) → EndsFrame (bits offset all) o → octets ≡ o ∷ [])
            → AreCandidatesAfter (length x) all (map (candidate_at (length all) offset) octets)
        by_count [] each whole = none_heard (λ o e. let same : [] ≡ o ∷ [] = whole o e in cc)
        by_count (o ∷ rest) each whole =
            let ends : EndsFrame (bits offset all) o = All-head (λ t. EndsFrame (bits offset all) t) o rest each in
            let one : o ∷ rest ≡ o ∷ [] = whole o ends in
            subst (λ t. AreCandidatesAfter (length x) all (map (candidate_at (length all) offset) t)) (sym one)
            (one_heard o ends (λ other e. let same : o ∷ rest ≡ other ∷ [] = whole other e in cc))

-- before the eighth sample no window ends, and nothing is heard
pub nothing_heard : (x : List ℤ) (sample : ℤ) (found : List Candidate) → length x + 1 < 8
    → HearsMore x (sample ∷ []) found found
nothing_heard x sample found few =
    let all : List ℤ = x ++ sample ∷ [] in
    let more : length all ≡ length x + 1 = length_push x sample in
    record {
      heard = [];
      found = sym (append-nil found);
      are = record {
        each = All-nil (λ i. IsCandidate all i × (length x < i.end));
        whole = λ item c following. let within = end_within all item c in let end = c.ends.end_of in absurd (omega arith);
        order = λ i j d ij jl. absurd (omega arith);
      };
    }
