-- The candidates of samples, with one sample more.
use Rattle.hf_modem.proofs.Common.{◌≡◌, ℕ, ◌+◌, ◌*◌, ◌/◌, ◌%◌, ◌<◌, ◌≤◌, ℤ, List, [], ◌++◌, length, get_or, take, ap}
use Rattle.hf_modem.proofs.Common.{sym, ◌∙◌, arith, subst, inl, inr, cases_lt, take_all, All-append, All-nil, bits}
use Rattle.hf_modem.proofs.Common.{windows_in, EndsFrame, Candidate, standing, IsCandidate, AreCandidatesAfter}
use Rattle.hf_modem.proofs.Common.{end_sample}
use Rattle.std.proofs.lemmas.List.Elements.{Contains-append_left, Contains-append_right}
use Rattle.offset_slicers.proofs.TonesOfWindows.{first_of}
use Rattle.hf_modem.proofs.WindowLemmas.{length-bits, bits-append}
use Rattle.hf_modem.specs.Candidates.{EndsAtBit, EndsWith}
use Rattle.slicer_bank.proofs.CandidateLemmas.{AllPairs-append}

-- the sample at which a frame ends, from its end and offset
pub end_sample-is : (x : List ℤ) (item : Candidate) (index : ℕ) → EndsAtBit x item index
    → end_sample item ≡ item.offset + 32 * (index + 1)
end_sample-is x item index h = let e = h.end_of in omega arith

-- and back
end_is : (item : Candidate) (index : ℕ) → end_sample item ≡ item.offset + 32 * (index + 1)
    → item.end ≡ (item.offset + 32 * (index + 1)) / 4
end_is item index h = omega arith

-- a candidate ends within the samples
pub end_within : (x : List ℤ) (item : Candidate) → IsCandidate x item → end_sample item ≤ length x
end_within x item h =
    let n = length-bits item.offset x in
    let w = h.ends.within in
    let e = end_sample-is x item h.index h.ends in
    omega arith

-- by end and then offset candidates stand as the samples at which they end
pub standing-rises : (x : List ℤ) (item later : Candidate) → IsCandidate x item → IsCandidate x later
    → end_sample item < end_sample later
    → standing item < standing later
standing-rises x item later h k less =
    let e = end_sample-is x item h.index h.ends in
    let f = end_sample-is x later k.index k.ends in
    let small = h.offset in
    let small' = k.offset in
    elim (cases_lt item.end later.end) [
      | inl lt ↦ omega arith
      | inr ge ↦
          let same : item.end ≡ later.end = omega arith in
          let rest : item.offset % 4 < later.offset % 4 = omega arith in
          let here : item.offset ≡ 4 * (item.end % 8) + item.offset % 4 = omega arith in
          let there : later.offset ≡ 4 * (later.end % 8) + later.offset % 4 = omega arith in
          let eighth : item.end % 8 ≡ later.end % 8 = ap (λ n. n % 8) same in
          omega arith
    ]

-- the bits that the first samples give
first_bits : (offset : ℕ) (x y : List ℤ) (index : ℕ) → index < length (bits offset x)
    → (index < length (bits offset (x ++ y)))
    × (take (index + 1) (bits offset (x ++ y)) ≡ take (index + 1) (bits offset x))
first_bits offset x y index =
    first_of (bits offset x) (bits offset (x ++ y)) (windows_in offset (length x)) index (bits-append offset x y)

-- a candidate of the first samples is one of them all
pub candidate_more : (x y : List ℤ) (item : Candidate) → IsCandidate x item → IsCandidate (x ++ y) item
candidate_more x y item h =
    let first = first_bits item.offset x y h.index h.ends.within in
    record {
      offset = h.offset;
      index = h.index;
      ends = record {
        within = first.0;
        end_of = h.ends.end_of;
        frame = subst (λ b. EndsFrame b item.octets) (sym first.1) h.ends.frame;
      };
    }

-- a candidate that ends within the first samples is one of them
pub candidate_less : (x y : List ℤ) (item : Candidate) → IsCandidate (x ++ y) item → end_sample item ≤ length x
    → IsCandidate x item
candidate_less x y item h e =
    let n = length-bits item.offset x in
    let end = end_sample-is (x ++ y) item h.index h.ends in
    let within : h.index < length (bits item.offset x) = omega arith in
    record {
      offset = h.offset;
      index = h.index;
      ends = record {
        within = within;
        end_of = h.ends.end_of;
        frame = subst (λ b. EndsFrame b item.octets) (first_bits item.offset x y h.index within).1 h.ends.frame;
      };
    }

-- a candidate that ends with the last of the samples is what its lane hears there
pub ends_with_last : (x : List ℤ) (item : Candidate) → IsCandidate x item → end_sample item ≡ length x
    → EndsWith item.offset x item.octets
ends_with_last x item h e =
    let n = length-bits item.offset x in
    let end = end_sample-is x item h.index h.ends in
    let all : take (h.index + 1) (bits item.offset x) ≡ bits item.offset x =
    take_all (h.index + 1) (bits item.offset x) (omega arith) in
    record {
      window = (h.index, sym e ∙ end);
      frame = subst (λ b. EndsFrame b item.octets) all h.ends.frame;
    }

-- what a lane hears with the last of the samples is a candidate
pub candidate_at_last : (x : List ℤ) (item : Candidate) → item.offset < 32 → end_sample item ≡ length x
    → EndsWith item.offset x item.octets → IsCandidate x item
candidate_at_last x item small e h =
    let n = length-bits item.offset x in
    let size = h.window.1 in
    let all : take (h.window.0 + 1) (bits item.offset x) ≡ bits item.offset x =
    take_all (h.window.0 + 1) (bits item.offset x) (omega arith) in
    record {
      offset = small;
      index = h.window.0;
      ends = record {
        within = omega arith;
        end_of = end_is item h.window.0 (e ∙ size);
        frame = subst (λ b. EndsFrame b item.octets) (sym all) h.frame;
      };
    }

-- no candidate ends after the samples
pub candidates_none : (x : List ℤ) → AreCandidatesAfter (length x) x []
candidates_none x = record {
  each = All-nil (λ item. IsCandidate x item × (length x < end_sample item));
  whole = λ item h l. let e = end_within x item h in absurd (omega arith);
  order = λ i j d ij jl. absurd (omega arith);
}

-- the candidates of the first samples, and those of all that end after them
pub candidates_join : (position : ℕ) (x y : List ℤ) (found more : List Candidate)
    → position ≤ length x
    → AreCandidatesAfter position x found
    → AreCandidatesAfter (length x) (x ++ y) more
    → AreCandidatesAfter position (x ++ y) (found ++ more)
candidates_join position x y found more le h new =
    let P : Candidate → Type 0 = λ item. IsCandidate (x ++ y) item × (position < end_sample item) in
    record {
      each = All-append P found more
          (λ k d l. let e = h.each k d l in (candidate_more x y (get_or found k d) e.0, e.1))
          (λ k d l. let e = new.each k d l in let later = e.1 in (e.0, omega arith));
      whole = λ item c l. elim (cases_lt (length x) (end_sample item)) [
        | inl lt ↦ Contains-append_right found more item (new.whole item c lt)
        | inr ge ↦ Contains-append_left found more item (h.whole item (candidate_less x y item c ge) l)
      ];
      order = AllPairs-append (λ item later. standing item < standing later) found more h.order new.order
          (λ i j d il jl.
          let a = h.each i d il in
          let b = new.each j d jl in
          let within = end_within x (get_or found i d) a.0 in
          let later = b.1 in
          standing-rises (x ++ y) (get_or found i d) (get_or more j d) (candidate_more x y (get_or found i d) a.0) b.0
          (omega arith));
    }
