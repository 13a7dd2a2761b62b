-- What the eight lanes hear obeys the laws of a receiver.
pub use Rattle.block_receiver.proofs.PartLemmas.{below_more, next_is, contains_passing, between_between}
use Rattle.slicer_bank.proofs.Common.{◌≡◌, ℕ, ◌+◌, ◌<◌, ◌≤◌, ℤ, List, [], ◌++◌, length, ap, sym, ◌∙◌, arith, subst, refl}
use Rattle.slicer_bank.proofs.Common.{get_or, All, All-weaker, All-filter, filter_passes, AllPairs-filter, Candidate}
use Rattle.slicer_bank.proofs.Common.{standing, in_order, merged, below, IsCandidate, AreCandidates, AreCandidatesAfter}
use Rattle.slicer_bank.proofs.Common.{CanBePut, AllPast}
use Rattle.std.specs.Prelude.{nat_lt}
use Rattle.std.specs.List.{filter}
use Rattle.std.proofs.lemmas.Bool.{ltb-true, lt-ltb}
use Rattle.block_receiver.specs.Hearing.{IsHearing, Adds, CanBePutFrom}
use Rattle.block_receiver.proofs.AddingLemmas.{put_after}
use Rattle.slicer_bank.specs.Hearing.{hearing_of_eight}
use Rattle.slicer_bank.proofs.CandidateLemmas.{end_within, candidates_none, candidates_join}
use Rattle.slicer_bank.proofs.MergingLemmas.{is_in_order}
use Rattle.slicer_bank.proofs.OneList.{one_list}

-- each ends within the samples
ends_within : (x : List ℤ) (items : List Candidate) → AreCandidates x items → All (λ y. y.end < length x + 1) items
ends_within x items are k d l = let e = are.each k d l in let within = end_within x (get_or items k d) e.0 in
    omega arith

-- the candidates of more samples begin with those of the first
begins : (x y : List ℤ) (items all : List Candidate) → AreCandidates x items → AreCandidates (x ++ y) all
    → (found : List Candidate) × (all ≡ items ++ found) × All (λ item. length x ≤ item.end) found
begins x y items all are whole =
    let late : List Candidate = filter (λ item. nat_lt (length x) item.end) all in
    let passes = filter_passes (λ item. nat_lt (length x) item.end) all in
    let following : AreCandidatesAfter (length x) (x ++ y) late = record {
      each = λ k d l.
          let e = All-filter (λ item. nat_lt (length x) item.end) (λ item. IsCandidate (x ++ y) item × (0 < item.end))
          all whole.each k d l in
          (e.0, ltb-true (length x) (get_or late k d).end (passes k d l));
      whole = λ item is l. contains_passing (λ other. nat_lt (length x) other.end) all item
          (whole.whole item is (omega arith)) (lt-ltb (length x) item.end l);
      order = AllPairs-filter (λ item later. standing item < standing later) (λ item. nat_lt (length x) item.end)
          all whole.order;
    } in
    let same : all ≡ items ++ late = one_list (x ++ y) all (items ++ late) whole
    (candidates_join 0 x y items late (omega arith) are following) in (
      late,
      same,
      λ k d l. let e = following.each k d l in let past = e.1 in omega arith,
    )

-- more samples change nothing of what ends below the number of these
pub stays : (x y : List ℤ) (items all : List Candidate) (position : ℕ) → AreCandidates x items
    → AreCandidates (x ++ y) all → position ≤ length x → below position (merged all) ≡ below position (merged items)
stays x y items all position are whole low =
    let parts = begins x y items all are whole in
    ap (λ t. below position (merged t)) parts.1
    ∙ below_more position items parts.0
    (All-weaker (λ item. length x ≤ item.end) (λ item. position ≤ item.end) (λ item l. omega arith) parts.0 parts.2)

-- what a block brings is put after what was heard
pub adds : (x y : List ℤ) (found : List Candidate) → AreCandidatesAfter (length x) (x ++ y) found
    → Adds AreCandidates x (x ++ y) found
adds x y found new puts are =
    let all = candidates_join 0 x y (in_order puts) found (omega arith) are new in
    subst (AreCandidates (x ++ y)) (sym (put_after puts found are.order all.order)) all

-- and can be put into a merger that is marked where the block began
pub can_be_put : (position low : ℕ) (found : List Candidate) → low ≡ position → All CanBePut found
    → AllPast position found → All (CanBePutFrom 8 low) found
can_be_put position low found at fits past k d l =
    let can = fits k d l in
    let following = past k d l in
    record { can = record { lane = can.lane; end = can.end }; from = omega arith }

pub is_hearing : IsHearing hearing_of_eight
is_hearing = record {
  some = omega arith;
  few = omega arith;
  none = candidates_none [];
  order = is_in_order;
  ends = ends_within;
  begins = refl;
  rises = λ count more. omega arith;
  within = λ count. omega arith;
  near = λ count. omega arith;
  stays = stays;
}
