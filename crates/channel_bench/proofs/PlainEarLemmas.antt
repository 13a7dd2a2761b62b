-- An ear that hears more samples.
use Rattle.channel_bench.proofs.Common.{◌≡◌, ℕ, ◌+◌, ◌^◌, ◌<◌, ◌≤◌, ℤ, List, [], ◌++◌, length, replicate, ap, sym, ◌∙◌}
use Rattle.channel_bench.proofs.Common.{arith, subst, length-append, All, HasFrameLength, Candidate, merged}
use Rattle.channel_bench.proofs.Common.{AreMergedBetween, PlainEar, PlainEarStandsFor, mark_of}
use Rattle.std.specs.List.Sorted.{IsNonDecreasingBy}
use Rattle.std.proofs.lemmas.List.Elements.{All-filter}
use Rattle.frame_merge.specs.Held.{Held as HeldMerger, StandsFor as MergerStandsFor, least}
use Rattle.frame_merge.specs.Order.{in_order}
use Rattle.frame_merge.specs.Merged.{below}
use Rattle.frame_merge.proofs.Merging.{merged-rising, All-merged}
use Rattle.frame_merge.proofs.Ordering.{rising_ends}
use Rattle.frame_merge.proofs.Taking.{least-one}
use Rattle.slicer_bank.specs.Candidates.{AreCandidates, AreCandidatesAfter, IsCandidate}
use Rattle.slicer_bank.specs.Held.{StandsFor as BankStandsFor}
use Rattle.slicer_bank.proofs.CandidateLemmas.{candidates_none, candidates_join}
use Rattle.slicer_bank.proofs.MergingLemmas.{in_order-strictly, is_in_order}
use Rattle.slicer_bank.proofs.MergedLemmas.{below_more, next_is}

-- nothing is heard
pub ear_none : (held : PlainEar) → BankStandsFor held.bank [] → held.bank.flags ≡ 1 → held.count ≡ 0
    → held.merger.marks ≡ replicate 8 0 → MergerStandsFor held.merger [] [] → PlainEarStandsFor held []
ear_none held bank flags count marks merger = record {
  bank = bank;
  flags = flags;
  count = count;
  marks = marks;
  candidates = [];
  are = candidates_none [];
  so_far = merger;
}

-- candidates that end past some samples end past their mark
past_mark : (x y : List ℤ) (found : List Candidate) → AreCandidatesAfter (length x) (x ++ y) found
    → All (λ item. mark_of x ≤ item.end) found
past_mark x y found h k d l = let e = h.each k d l in let past = e.1 in omega arith

rising_merged : (x : List ℤ) (items : List Candidate) → AreCandidates x items
    → IsNonDecreasingBy (λ y. y.end) (merged items)
rising_merged x items are = merged-rising (λ y. y.end) [] items (rising_ends items (is_in_order x items are))

module _ (x y : List ℤ) (before after : PlainEar) (put marked : HeldMerger) (found ready : List Candidate)
    (room : length (x ++ y) < 2 ^ 48)
    (heard : BankStandsFor before.bank x
    → BankStandsFor after.bank (x ++ y) × AreCandidatesAfter (length x) (x ++ y) found)
    (flags : after.bank.flags ≡ before.bank.flags)
    (count : after.count ≡ before.count + length y)
    (puts : (puts given : List Candidate) → MergerStandsFor before.merger puts given
    → MergerStandsFor put (puts ++ found) given)
    (mark : (puts given : List Candidate) → MergerStandsFor put puts given → MergerStandsFor marked puts given)
    (marks : marked.marks ≡ replicate 8 (mark_of (x ++ y)))
    (gives : (puts given : List Candidate) → MergerStandsFor marked puts given
    → MergerStandsFor after.merger puts (given ++ ready) ×
    (given ++ ready ≡ below (least marked.marks) (merged (in_order puts))))
    (stay : after.merger.marks ≡ marked.marks) where
  at : least marked.marks ≡ mark_of (x ++ y)
  at = ap least marks ∙ least-one 7 (mark_of (x ++ y)) (omega arith)

  pub ear_more : PlainEarStandsFor before x
      → PlainEarStandsFor after (x ++ y) × AreMergedBetween (mark_of x) (mark_of (x ++ y)) (x ++ y) ready
  ear_more h =
      let both = heard h.bank in
      let all : List Candidate = h.candidates ++ found in
      let given : List Candidate = below (mark_of x) (merged h.candidates) in
      let are : AreCandidates (x ++ y) all = candidates_join 0 x y h.candidates found (omega arith) h.are both.1 in
      let ordered : in_order all ≡ all = in_order-strictly all are.order in
      let step = gives all given (mark all given (puts h.candidates given h.so_far)) in
      let total : given ++ ready ≡ below (mark_of (x ++ y)) (merged all) =
      step.1 ∙ ap (λ t. below t (merged (in_order all))) at ∙ ap (λ t. below (mark_of (x ++ y)) (merged t)) ordered in
      let size = length-append x y in (
        record {
          bank = both.0;
          flags = flags ∙ h.flags;
          count = count ∙ ap (λ n. n + length y) h.count ∙ sym size;
          marks = stay ∙ marks;
          candidates = all;
          are = are;
          so_far = subst (λ t. MergerStandsFor after.merger all t) total step.0;
        },
        record {
          candidates = all;
          are = are;
          is = next_is (mark_of x) (mark_of (x ++ y)) given ready (merged all) (omega (arith, size))
              (rising_merged (x ++ y) all are)
              (sym (below_more (mark_of x) h.candidates found (past_mark x y found both.1))) total;
        },
      )

-- ---- lengths

-- what is heard has the length of a frame
abbrev IsOfLength : Candidate → Type 0
IsOfLength item = HasFrameLength item.octets

candidate_length : (x : List ℤ) (item : Candidate) → IsCandidate x item → IsOfLength item
candidate_length x item h = let frame = h.ends.frame.2 in record { least = frame.least; most = frame.most }

pub ready_lengths : (from to : ℕ) (x : List ℤ) (items : List Candidate) → AreMergedBetween from to x items
    → All (λ item. HasFrameLength item.octets) items
ready_lengths from to x items h =
    subst (All IsOfLength) (sym h.is)
    (All-filter _ IsOfLength (merged h.candidates)
    (All-merged IsOfLength [] h.candidates (λ k d lt. candidate_length x _ (h.are.each k d lt).0)))
