-- The candidates of samples, with one sample more.
use Rattle.slicer_bank.proofs.Common.{◌≡◌, ℕ, ◌+◌, ◌-◌, ◌<◌, ◌≤◌, ℤ, List, [], ◌++◌, length, get_or, take, ap, sym, ◌∙◌}
use Rattle.slicer_bank.proofs.Common.{arith, subst, length-append, inl, inr, AllPairs, cases_lt, take_all}
use Rattle.slicer_bank.proofs.Common.{get_or_append_left, get_or-append-add, All-append, All-nil, Contains-append_left}
use Rattle.slicer_bank.proofs.Common.{Contains-append_right, bits, windows_in, length-bits, EndsFrame, Candidate}
use Rattle.slicer_bank.proofs.Common.{standing, IsCandidate, AreCandidatesAfter}
use Rattle.offset_slicers.proofs.TonesOfWindows.{first_of}
use Rattle.offset_slicers.proofs.WindowLemmas.{bits-append}
use Rattle.slicer_bank.specs.Candidates.{EndsWith}

-- a candidate ends within the samples
pub end_within : (x : List ℤ) (item : Candidate) → IsCandidate x item → item.end ≤ length x
end_within x item h = let n = length-bits item.offset x in let w = h.ends.within in let e = h.ends.end_of in omega arith

-- the bits that the first samples give
first_bits : (offset : ℕ) (x y : List ℤ) (index : ℕ) → index < length (bits offset x)
    → (index < length (bits offset (x ++ y)))
    × (take (index + 1) (bits offset (x ++ y)) ≡ take (index + 1) (bits offset x))
first_bits offset x y index =
    first_of (bits offset x) (bits offset (x ++ y)) (windows_in offset (length x)) index (bits-append offset x y)

-- a candidate of the first samples is one of them all
pub candidate_more : (x y : List ℤ) (item : Candidate) → IsCandidate x item → IsCandidate (x ++ y) item
candidate_more x y item h =
    let first = first_bits item.offset x y h.index h.ends.within in
    record {
      offset = h.offset;
      index = h.index;
      ends = record {
        within = first.0;
        end_of = h.ends.end_of;
        frame = subst (λ b. EndsFrame b item.octets) (sym first.1) h.ends.frame;
      };
    }

-- a candidate that ends within the first samples is one of them
pub candidate_less : (x y : List ℤ) (item : Candidate) → IsCandidate (x ++ y) item → item.end ≤ length x
    → IsCandidate x item
candidate_less x y item h e =
    let n = length-bits item.offset x in
    let end = h.ends.end_of in
    let within : h.index < length (bits item.offset x) = omega arith in
    record {
      offset = h.offset;
      index = h.index;
      ends = record {
        within = within;
        end_of = h.ends.end_of;
        frame = subst (λ b. EndsFrame b item.octets) (first_bits item.offset x y h.index within).1 h.ends.frame;
      };
    }

-- a candidate that ends with the last of the samples is what its lane hears there
pub ends_with_last : (x : List ℤ) (item : Candidate) → IsCandidate x item → item.end ≡ length x
    → EndsWith item.offset x item.octets
ends_with_last x item h e =
    let n = length-bits item.offset x in
    let end = h.ends.end_of in
    let all : take (h.index + 1) (bits item.offset x) ≡ bits item.offset x =
    take_all (h.index + 1) (bits item.offset x) (omega arith) in
    record {
      window = (h.index, sym e ∙ end);
      frame = subst (λ b. EndsFrame b item.octets) all h.ends.frame;
    }

-- what a lane hears with the last of the samples is a candidate
pub candidate_at_last : (x : List ℤ) (item : Candidate) → item.offset < 8 → item.end ≡ length x
    → EndsWith item.offset x item.octets → IsCandidate x item
candidate_at_last x item small e h =
    let n = length-bits item.offset x in
    let size = h.window.1 in
    let all : take (h.window.0 + 1) (bits item.offset x) ≡ bits item.offset x =
    take_all (h.window.0 + 1) (bits item.offset x) (omega arith) in
    record {
      offset = small;
      index = h.window.0;
      ends = record {
        within = omega arith;
        end_of = e ∙ size;
        frame =
            subst (λ b. EndsFrame b item.octets) (sym all) h.frame;
      };
    }

-- no candidate ends after the samples
pub candidates_none : (x : List ℤ) → AreCandidatesAfter (length x) x []
candidates_none x = record {
  each = All-nil (λ item. IsCandidate x item × (length x < item.end));
  whole = λ item h l. let e = end_within x item h in absurd (omega arith);
  order = λ i j d ij jl. absurd (omega arith);
}

-- each of one list and each later one, each of the other, and each of the one before each of the other
pub AllPairs-append : (R : Candidate → Candidate → Type 0) (xs ys : List Candidate) → AllPairs R xs → AllPairs R ys
    → ((i j : ℕ) (d : Candidate) → i < length xs → j < length ys → R (get_or xs i d) (get_or ys j d))
    → AllPairs R (xs ++ ys)
AllPairs-append R xs ys a b across i j d ij jl =
    let len = length-append xs ys in
    elim (cases_lt j (length xs)) [
      | inl jx ↦
          subst (λ t. R t (get_or (xs ++ ys) j d)) (sym (get_or_append_left xs ys d i (omega arith)))
          (subst (R (get_or xs i d)) (sym (get_or_append_left xs ys d j jx)) (a i j d ij jx))
      | inr jy ↦
          let at_j : get_or (xs ++ ys) j d ≡ get_or ys (j - length xs) d =
          ap (λ t. get_or (xs ++ ys) t d) (let e : j ≡ length xs + (j - length xs) = omega arith in e)
          ∙ get_or-append-add xs ys (j - length xs) d in
          elim (cases_lt i (length xs)) [
            | inl ix ↦ subst (λ t. R t (get_or (xs ++ ys) j d)) (sym (get_or_append_left xs ys d i ix))
                (subst (R (get_or xs i d)) (sym at_j) (across i (j - length xs) d ix (omega arith)))
            | inr iy ↦
                let at_i : get_or (xs ++ ys) i d ≡ get_or ys (i - length xs) d =
                ap (λ t. get_or (xs ++ ys) t d) (let e : i ≡ length xs + (i - length xs) = omega arith in e)
                ∙ get_or-append-add xs ys (i - length xs) d in
                subst (λ t. R t (get_or (xs ++ ys) j d)) (sym at_i)
                (subst (R (get_or ys (i - length xs) d)) (sym at_j)
                (b (i - length xs) (j - length xs) d (omega arith) (omega arith)))
          ]
    ]

-- the candidates of the first samples, and those of all that end after them
pub candidates_join : (position : ℕ) (x y : List ℤ) (found more : List Candidate)
    → position ≤ length x
    → AreCandidatesAfter position x found
    → AreCandidatesAfter (length x) (x ++ y) more
    → AreCandidatesAfter position (x ++ y) (found ++ more)
candidates_join position x y found more le h new =
    let P : Candidate → Type 0 = λ item. IsCandidate (x ++ y) item × (position < item.end) in
    record {
      each = All-append P found more
          (λ k d l. let e = h.each k d l in (candidate_more x y (get_or found k d) e.0, e.1))
          (λ k d l. let e = new.each k d l in let later = e.1 in (e.0, omega arith));
      whole = λ item c l. elim (cases_lt (length x) item.end) [
        | inl lt ↦ Contains-append_right found more item (new.whole item c lt)
        | inr ge ↦ Contains-append_left found more item (h.whole item (candidate_less x y item c ge) l)
      ];
      order = AllPairs-append (λ item later. standing item < standing later) found more h.order new.order
          (λ i j d il jl.
          let a = h.each i d il in
          let within = end_within x (get_or found i d) a.0 in
          let small = a.0.offset in
          let later = (new.each j d jl).1 in
          omega arith);
    }
