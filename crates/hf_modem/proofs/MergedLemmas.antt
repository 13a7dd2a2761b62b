-- What the lanes hear obeys the laws of a receiver.
use Rattle.hf_modem.proofs.Common.{◌≡◌, ℕ, ◌+◌, ◌/◌, ◌<◌, ◌≤◌, ℤ, List, [], ◌++◌, length, ap, sym, ◌∙◌, arith, subst, refl}
use Rattle.hf_modem.proofs.Common.{get_or, Bool, All, Candidate, standing, in_order, merged, below, IsCandidate}
use Rattle.hf_modem.proofs.Common.{AreCandidates, AreCandidatesAfter, end_sample}
use Rattle.std.specs.Prelude.{nat_lt}
use Rattle.std.specs.List.{filter}
use Rattle.std.proofs.lemmas.Bool.{ltb-true, lt-ltb}
use Rattle.std.proofs.lemmas.List.Elements.{All-weaker, All-filter, filter_passes}
use Rattle.std.proofs.lemmas.List.Kept.{AllPairs-filter}
use Rattle.frame_merge.specs.Order.{IsInOrder}
use Rattle.block_receiver.proofs.PuttingLemmas.{rising_strictly}
use Rattle.block_receiver.proofs.PartLemmas.{below_more, contains_passing}
use Rattle.block_receiver.specs.Hearing.{IsHearing, Adds}
use Rattle.block_receiver.proofs.AddingLemmas.{put_after}
use Rattle.hf_modem.specs.Hearing.{hf_hearing}
use Rattle.hf_modem.proofs.CandidateLemmas.{end_within, candidates_none, candidates_join}
use Rattle.hf_modem.proofs.OneList.{one_list}

-- the candidates of samples are in order
pub is_in_order : (x : List ℤ) (items : List Candidate) → AreCandidates x items → IsInOrder items
is_in_order x items h = record {
  rising = rising_strictly items h.order;
  offsets = λ k d l. let e = h.each k d l in let small = e.0.offset in omega arith;
}

-- each ends within the samples
ends_within : (x : List ℤ) (items : List Candidate) → AreCandidates x items → All (λ y. y.end < length x / 4 + 1) items
ends_within x items are k d l = let e = are.each k d l in let within = end_within x (get_or items k d) e.0 in
    omega arith

-- the candidates of more samples begin with those of the first
begins : (x y : List ℤ) (items all : List Candidate) → AreCandidates x items → AreCandidates (x ++ y) all
    → (found : List Candidate) × (all ≡ items ++ found) × All (λ item. length x / 4 ≤ item.end) found
begins x y items all are whole =
    let p : Candidate → Bool = λ item. nat_lt (length x) (end_sample item) in
    let late : List Candidate = filter p all in
    let passes = filter_passes p all in
    let after : AreCandidatesAfter (length x) (x ++ y) late = record {
      each = λ k d l.
          let e = All-filter p (λ item. IsCandidate (x ++ y) item × (0 < end_sample item)) all whole.each k d l in
          (e.0, ltb-true (length x) (end_sample (get_or late k d)) (passes k d l));
      whole = λ item is l. contains_passing p all item (whole.whole item is (omega arith))
          (lt-ltb (length x) (end_sample item) l);
      order = AllPairs-filter (λ item later. standing item < standing later) p all whole.order;
    } in
    let same : all ≡ items ++ late = one_list (x ++ y) all (items ++ late) whole
    (candidates_join 0 x y items late (omega arith) are after) in (
      late,
      same,
      λ k d l. let e = after.each k d l in let following = e.1 in omega arith,
    )

-- more samples change nothing of what ends below a quarter of the number of these
pub stays : (x y : List ℤ) (items all : List Candidate) (position : ℕ) → AreCandidates x items
    → AreCandidates (x ++ y) all → position ≤ length x / 4 → below position (merged all) ≡ below position (merged items)
stays x y items all position are whole low =
    let parts = begins x y items all are whole in
    ap (λ t. below position (merged t)) parts.1
    ∙ below_more position items parts.0
    (All-weaker (λ item. length x / 4 ≤ item.end) (λ item. position ≤ item.end) (λ item l. omega arith) parts.0 parts.2)

-- what a block brings is put after what was heard
pub adds : (x y : List ℤ) (found : List Candidate) → AreCandidatesAfter (length x) (x ++ y) found
    → Adds AreCandidates x (x ++ y) found
adds x y found new puts are =
    let all = candidates_join 0 x y (in_order puts) found (omega arith) are new in
    subst (AreCandidates (x ++ y)) (sym (put_after puts found are.order all.order)) all

pub is_hearing : IsHearing hf_hearing
is_hearing = record {
  some = omega arith;
  few = omega arith;
  none = candidates_none [];
  order = is_in_order;
  ends = ends_within;
  begins = refl;
  rises = λ count more. omega arith;
  within = λ count. omega arith;
  near = λ count. omega arith;
  stays = stays;
}
