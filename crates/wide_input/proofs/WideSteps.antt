-- A wide bank with a block more, and at its end.
use Rattle.wide_input.proofs.Common.{◌≡◌, ℕ, ◌+◌, ◌/◌, ◌^◌, ◌<◌, ◌≤◌, ℤ, List, [], ◌++◌, length, get_or, map, replicate}
use Rattle.wide_input.proofs.Common.{refl, ap, sym, subst, ◌∙◌, arith, length-append, fold, All, get_or-map, length-map}
use Rattle.wide_input.proofs.Common.{All-nil, Candidate, in_order, place, merged, below, AreCandidatesAfter, HeldBank}
use Rattle.wide_input.proofs.Common.{end_within, stream, least_count, IsWideCandidate, AreWideCandidates}
use Rattle.wide_input.proofs.Common.{AreWideMergedBetween, AreWideRest, HeldStream, StreamStandsFor, HearsBlock}
use Rattle.wide_input.proofs.Common.{HasFound, AreAlike, HaveTaken, items_of, found_by, brought}
use Rattle.std.proofs.Common.{zero-add}
use Rattle.std.specs.List.Sorted.{IsNonDecreasingBy}
use Rattle.std.proofs.lemmas.List.{append_cancel_left}
use Rattle.std.proofs.lemmas.List.Sums.{fold-append}
use Rattle.frame_merge.specs.Held.{Held as HeldMerger, StandsFor as MergerStandsFor, least}
use Rattle.frame_merge.specs.Merged.{not_below}
use Rattle.frame_merge.proofs.Ordering.{rising_ends}
use Rattle.frame_merge.proofs.Merging.{merged-rising}
use Rattle.frame_merge.proofs.Forgetting.{below_then_rest}
use Rattle.frame_merge.proofs.Taking.{least-one}
use Rattle.slicer_bank.specs.Held.{StandsFor as BankStandsFor}
use Rattle.slicer_bank.proofs.GatheringLemmas.{some_of}
use Rattle.slicer_bank.proofs.MergedLemmas.{next_is}
use Rattle.wide_input.specs.Held.{StreamsStandFor}
use Rattle.wide_input.proofs.StreamLemmas.{least_count-is}
use Rattle.wide_input.proofs.WideLemmas.{AreBrought, HaveFound, all_brought, placed, candidates_with, below_stays}
use Rattle.wide_input.proofs.WideLemmas.{wide_in_order}

-- ---- nothing taken

-- no samples have a candidate
none_wide : (item : Candidate) → IsWideCandidate [] item → ⊥
none_wide item h =
    let within = end_within (stream h.number []) h.heard h.candidate in
    let end = h.candidate.ends.end_of in
    omega arith

pub no_wide : AreWideCandidates [] []
no_wide = record {
  each = All-nil (IsWideCandidate []);
  whole = λ item h. absurd (none_wide item h);
  order = λ i j d ij jl. absurd (omega arith);
}

pub taken_none : (streams : List HeldStream) (merger : HeldMerger) → StreamsStandFor streams []
    → MergerStandsFor merger [] [] → HaveTaken streams merger []
taken_none streams merger stand m = record {
  samples = stand;
  puts = [];
  candidates = [];
  are = no_wide;
  order = refl;
  so_far = m;
}

-- ---- what is merged

pub rising_wide : (x : List ℤ) (candidates : List Candidate) → AreWideCandidates x candidates
    → IsNonDecreasingBy (λ y. y.end) (merged candidates)
rising_wide x candidates are = merged-rising (λ y. y.end) [] candidates
    (rising_ends candidates (wide_in_order x candidates are))

least_rises : (x y : List ℤ) → least_count x ≤ least_count (x ++ y)
least_rises x y = omega (arith, least_count-is x, least_count-is (x ++ y), length-append x y)

-- ---- a block more

module _ (x y : List ℤ) (before mid : List HeldStream) (was : HeldMerger) (size : length mid ≡ 5)
    (heard : (k : ℕ) (d : HeldStream) → k < 5 → HearsBlock y (get_or before k d) (get_or mid k d))
    (kept : All HasFound mid) (h : HaveTaken before was x) where
  one : HeldStream
  one = some_of mid (omega arith)

  -- each stream has taken its part of the block
  mid_stand : (k : ℕ) (d : HeldStream) → k < 5 → StreamStandsFor k (get_or mid k d) (x ++ y)
  mid_stand k d small = let found = kept k d (omega arith) in
      (heard k d small k x found.0 found.1 (h.samples k d small)).0

  -- and found what it brings
  have_found : HaveFound x y 0 (map found_by mid)
  have_found k d l =
      let n = length-map mid found_by in
      let small : k < 5 = omega arith in
      let found = kept k one (omega arith) in
      let there : AreCandidatesAfter (length (stream k x)) (stream k (x ++ y)) found.0 =
      (heard k one small k x found.0 found.1 (h.samples k one small)).1 in
      let at : found.0 ≡ get_or (map found_by mid) k d = sym (get_or-map found_by mid k one d (omega arith)
      ∙ ap items_of found.1) in
      let number : k ≡ 0 + k = sym (zero-add k) in
      subst (λ i. AreCandidatesAfter (length (stream i x)) (stream i (x ++ y)) (get_or (map found_by mid) k d)) number
      (subst (AreCandidatesAfter (length (stream k x)) (stream k (x ++ y))) at there)

  abbrev pub items : List Candidate
  items = brought 0 (map found_by mid)

  are_brought : AreBrought x y items
  are_brought = all_brought x y (map found_by mid) (length-map mid found_by ∙ size) have_found

  candidates : List Candidate
  candidates = placed h.candidates items

  are : AreWideCandidates (x ++ y) candidates
  unfolding candidates
  are = candidates_with x y h.candidates items h.are are_brought

  all : in_order (h.puts ++ items) ≡ candidates
  unfolding candidates
  all = fold-append (λ ordered item. place item ordered) [] h.puts items
      ∙ ap (λ done. fold (λ ordered item. place item ordered) done items) h.order

  given : List Candidate
  given = below (least_count x) (merged h.candidates)

  given_is : given ≡ below (least_count x) (merged candidates)
  unfolding given candidates
  given_is = sym (below_stays x y h.candidates items h.are are_brought)

  module _ (new : List HeldStream) (alike : (k : ℕ) (d : HeldStream) → k < 5
      → AreAlike (get_or new k d) (get_or mid k d))
      (marked now : HeldMerger) (ready : List Candidate) (room : length (x ++ y) < 2 ^ 48)
      (puts : (puts given : List Candidate) → MergerStandsFor was puts given
      → MergerStandsFor marked (puts ++ items) given)
      (marks : marked.marks ≡ replicate 40 (length (x ++ y) / 5))
      (gives : (puts given : List Candidate) → MergerStandsFor marked puts given
      → MergerStandsFor now puts (given ++ ready)
      × (given ++ ready ≡ below (least marked.marks) (merged (in_order puts)))) where
    at : least marked.marks ≡ least_count (x ++ y)
    at = ap least marks ∙ least-one 39 (length (x ++ y) / 5) (omega arith) ∙ sym (least_count-is (x ++ y))

    stands : MergerStandsFor marked (h.puts ++ items) given
    unfolding given
    stands = puts h.puts (below (least_count x) (merged h.candidates)) h.so_far

    pub taken_more : HaveTaken new now (x ++ y) × AreWideMergedBetween (least_count x) (least_count (x ++ y)) (x ++ y)
        ready
    taken_more =
        let step = gives (h.puts ++ items) given stands in
        let total : given ++ ready ≡ below (least_count (x ++ y)) (merged candidates)
        = step.1 ∙ ap (λ t. below t (merged (in_order (h.puts ++ items)))) at
        ∙ ap (λ t. below (least_count (x ++ y)) (merged t)) all in (
          record {
            samples = λ k d small.
                let same = alike k d small in
                let there = mid_stand k d small in
                record {
                  bank = subst (λ (b : HeldBank). BankStandsFor b (stream k (x ++ y))) (sym same.bank) there.bank;
                  skipped = same.skipped ∙ there.skipped;
                };
            puts = h.puts ++ items;
            candidates = candidates;
            are = are;
            order = all;
            so_far = subst (MergerStandsFor now (h.puts ++ items)) total step.0;
          },
          record {
            candidates = candidates;
            are = are;
            is = next_is (least_count x) (least_count (x ++ y)) given ready (merged candidates) (least_rises x y)
                (rising_wide (x ++ y) candidates are) given_is total;
          },
        )

-- ---- the end

pub gives_rest : (x : List ℤ) (streams : List HeldStream) (was : HeldMerger) (ready : List Candidate)
    → HaveTaken streams was x
    → ((puts given : List Candidate) → MergerStandsFor was puts given → given ++ ready ≡ merged (in_order puts))
    → AreWideRest (least_count x) x ready
gives_rest x streams was ready h last =
    let zs : List Candidate = merged h.candidates in
    let total : below (least_count x) zs ++ ready ≡ zs = last h.puts (below (least_count x) zs) h.so_far
    ∙ ap merged h.order in
    record {
      candidates = h.candidates;
      are = h.are;
      is = append_cancel_left (below (least_count x) zs) ready (not_below (least_count x) zs)
          (total ∙ sym (below_then_rest (least_count x) zs (rising_wide x h.candidates h.are)));
    }
