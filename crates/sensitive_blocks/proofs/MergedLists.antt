-- What is merged of samples: there is one list of it, its ends do not fall, and what is settled of it stays.
use Rattle.sensitive_blocks.proofs.Common.{◌≡◌, ℕ, ◌+◌, ◌*◌, ◌<◌, ◌≤◌, ℤ, List, [], ◌++◌, length, get_or, ap}
use Rattle.sensitive_blocks.proofs.Common.{sym, ◌∙◌, subst, refl, arith, inl, inr, cases_eq, cases_lt, All, All-nil}
use Rattle.sensitive_blocks.proofs.Common.{All-weaker, AreHeard, AreHeardBelow, AreMerged, Heard, IsHeard, merged, merged_after}
use Rattle.sensitive_blocks.proofs.Common.{settled}
use Rattle.std.proofs.Common.{length-append}
use Rattle.std.specs.List.Sorted.{IsNonDecreasingBy}
use Rattle.fx25_receiver.proofs.MergingLemmas.{merged_after-append}
use Rattle.fx25_receiver.proofs.MergedLists.{All-merged, merged-rising}
use Rattle.sensitive_blocks.specs.Held.{HeldReceiver, StandsFor}
use Rattle.sensitive_blocks.proofs.BitLemmas.{place_read, window_read}
use Rattle.sensitive_blocks.proofs.HeardBelow.{below-append, none_below}
use Rattle.sensitive_blocks.proofs.HeardLists.{one_list, some_list, with_more, with_rest}
use Rattle.sensitive_blocks.proofs.OneItem.{end_within, tag_below}

-- the ends of what is heard do not fall
pub heard_rises : (x : List ℤ) (items : List Heard) → AreHeard x items → IsNonDecreasingBy (λ item. item.end) items
heard_rises x items are i j d below within = elim (cases_eq i j) [
  | inl same ↦ let alike : (get_or items i d).end ≡ (get_or items j d).end = ap (λ k. (get_or items k d).end) same in
      omega arith
  | inr other ↦
      let later = are.order i j d (omega arith) within in
      let first = are.each i d (omega arith) in
      let second = are.each j d within in
      let lane = first.lane in
      let tag = tag_below x (get_or items i d) first in
      let lane_of = second.lane in
      let tag_of = tag_below x (get_or items j d) second in
      omega arith
]

-- of no samples nothing is heard
none_of_none : (item : Heard) → IsHeard [] item → ⊥
none_of_none item h = elim (cases_lt item.lane 8) [
  | inl window ↦
      let at = window_read [] item.lane item.end window h.reads in
      let least = at.least in
      let within = at.within in
      omega arith
  | inr added ↦ let decided = (place_read [] item.lane item.end added h.reads).decided in omega arith
]

pub none_merged : AreMerged [] []
none_merged = record {
  heard = [];
  are = record {
    each = All-nil (IsHeard []);
    whole = λ item h. absurd (none_of_none item h);
    order = λ i j d ij jl. absurd (omega arith);
  };
  is = refl;
}

pub some_merged : (x : List ℤ) → (items : List Heard) × AreMerged x items
some_merged x = let found = some_list x in
    (merged found.0, record { heard = found.0; are = found.1; is = refl })

pub one_merged : (x : List ℤ) (items others : List Heard) → AreMerged x items → AreMerged x others → items ≡ others
one_merged x items others a b = a.is ∙ ap merged (one_list x a.heard b.heard a.are b.are) ∙ sym b.is

pub merged_rises : (x : List ℤ) (items : List Heard) → AreMerged x items → IsNonDecreasingBy (λ item. item.end) items
merged_rises x items h =
    subst (IsNonDecreasingBy (λ item. item.end)) (sym h.is)
    (merged-rising (λ item. item.end) [] h.heard (heard_rises x h.heard h.are))

pub merged_within : (x : List ℤ) (items : List Heard) → AreMerged x items → All (λ item. item.end ≤ length x) items
merged_within x items h =
    subst (All (λ item. item.end ≤ length x)) (sym h.is)
    (All-merged (λ item. item.end ≤ length x) [] h.heard
    (All-weaker (IsHeard x) (λ item. item.end ≤ length x) (end_within x) h.heard h.are.each))

-- ---- what is settled

-- a list begins with items that end below a position, and goes on with others
pub record Begins (end : ℕ) (front items : List Heard) : Type 0 where
  pub more : List Heard
  pub is : items ≡ front ++ more
  pub early : All (λ item. item.end < end) front
  pub late : All (λ item. end ≤ item.end) more

-- what is merged of what is heard below an end is what is merged of the samples, up to there
pub begins_with : (x : List ℤ) (end : ℕ) (heard items : List Heard) → end ≤ length x + 1
    → AreHeardBelow (65536 * end) x heard → AreMerged x items → Begins end (merged heard) items
begins_with x end heard items within are h =
    let rest = with_rest x end heard within are in
    let all : h.heard ≡ heard ++ rest.0 = one_list x h.heard (heard ++ rest.0) h.are rest.1 in
    record {
      more = merged_after heard rest.0;
      is = h.is ∙ ap merged all ∙ merged_after-append [] heard rest.0;
      early = All-merged (λ item. item.end < end) [] heard (λ k d l.
          let each = are.each k d l in
          let below = each.1 in
          omega arith);
      late = All-merged (λ item. end ≤ item.end) heard rest.0 rest.2;
    }

-- with more samples what is settled stays
pub settled_stays : (x y : List ℤ) (end : ℕ) (items whole : List Heard) → end ≤ settled (length x) → AreMerged x items
    → AreMerged (x ++ y) whole → (front : List Heard) × Begins end front items × Begins end front whole
settled_stays x y end items whole inside a b =
    let found = with_more x 0 (65536 * end) [] (none_below x) in
    let front : List Heard = found.0 in
    let number : 0 + 65536 * end ≡ 65536 * end = omega arith in
    let are : AreHeardBelow (65536 * end) x front = subst (λ n. AreHeardBelow n x front) number found.1 in
    let size = length-append x y in (
      merged front,
      begins_with x end front items (omega arith) are a,
      begins_with (x ++ y) end front whole (omega arith) (below-append x y end front inside are) b,
    )

-- what a receiver gave is what is settled of what is merged
pub given_begins : (held : HeldReceiver) (x : List ℤ) (given items : List Heard) → StandsFor held x given
    → AreMerged x items → Begins (settled (length x)) given items
given_begins held x given items stands h =
    let taken = stands.taken.has_heard in
    let next = stands.next in
    let number : 65536 * held.next + 0 ≡ 65536 * settled (length x) = omega arith in
    let begins = begins_with x (settled (length x)) taken.heard items (omega arith)
    (subst (λ n. AreHeardBelow n x taken.heard) number taken.are) h in
    subst (λ g. Begins (settled (length x)) g items) (sym taken.given_is) begins
