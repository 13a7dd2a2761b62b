-- What is given of samples, and of these with more samples.
use Rattle.std.proofs.Common.{◌≡◌, ℕ, ◌+◌, ◌<◌, ◌≤◌, ℤ, List, [], ◌++◌, length, length-append, ap, refl, sym, ◌∙◌}
use Rattle.std.proofs.Common.{arith, subst}
use Rattle.std.specs.List.Sorted.{IsNonDecreasingBy}
use Rattle.std.proofs.lemmas.List.Elements.{All-weaker}
use Rattle.frame_merge.specs.declared.candidate.Candidate.{Candidate}
use Rattle.frame_merge.specs.Merged.{merged, below, not_below, between}
use Rattle.frame_merge.proofs.Ordering.{rising_ends}
use Rattle.frame_merge.proofs.Merging.{merged-rising, below_between, between_all, All-merged}
use Rattle.frame_merge.proofs.Taking.{below_all}
use Rattle.block_receiver.proofs.PartLemmas.{next_is, not_below_none, between_between}
use Rattle.block_receiver.specs.Hearing.{Hearing, IsHearing}
use Rattle.block_receiver.specs.MergedItems.{AreMerged, AreMergedBetween}

module _ {Lanes : Type 0} (hearing : Hearing Lanes) (laws : IsHearing hearing) where
  -- the merged candidates of samples do not fall in their ends
  rising_merged : (x : List ℤ) (items : List Candidate) → hearing.Heard x items
      → IsNonDecreasingBy (λ item. item.end) (merged items)
  rising_merged x items are =
      merged-rising (λ item. item.end) [] items (rising_ends items (laws.order x items are))

  -- all of them end where the samples do
  below_all_of : (x : List ℤ) (items : List Candidate) → hearing.Heard x items
      → below (hearing.past (length x)) (merged items) ≡ merged items
  below_all_of x items are = below_all (hearing.past (length x)) (merged items)
      (All-merged (λ item. item.end < hearing.past (length x)) [] items (laws.ends x items are))

  -- more samples settle more
  pub rises : (x y : List ℤ) → hearing.settled (length x) ≤ hearing.settled (length (x ++ y))
  rises x y = subst (λ n. hearing.settled (length x) ≤ hearing.settled n) (sym (length-append x y))
      (laws.rises (length x) (length y))

  -- what a block settles
  pub block_gives : (x y : List ℤ) (items all ready : List Candidate) → hearing.Heard x items
      → hearing.Heard (x ++ y) all
      → below (hearing.settled (length x)) (merged items) ++ ready
      ≡ below (hearing.settled (length (x ++ y))) (merged all)
      → AreMergedBetween hearing.Heard (hearing.settled (length x)) (hearing.settled (length (x ++ y))) (x ++ y) ready
  block_gives x y items all ready are whole total = record {
    candidates = all;
    are = whole;
    is = next_is (hearing.settled (length x)) (hearing.settled (length (x ++ y)))
        (below (hearing.settled (length x)) (merged items)) ready (merged all) (rises x y)
        (rising_merged (x ++ y) all whole)
        (sym (laws.stays x y items all (hearing.settled (length x)) are whole (omega arith))) total;
  }

  -- what is left at the end of the samples
  pub end_gives : (x : List ℤ) (items rest : List Candidate) → hearing.Heard x items
      → below (hearing.settled (length x)) (merged items) ++ rest ≡ merged items
      → AreMergedBetween hearing.Heard (hearing.settled (length x)) (hearing.past (length x)) x rest
  end_gives x items rest are total = record {
    candidates = items;
    are = are;
    is = next_is (hearing.settled (length x)) (hearing.past (length x))
        (below (hearing.settled (length x)) (merged items)) rest (merged items) (laws.within (length x))
        (rising_merged x items are) refl (total ∙ sym (below_all_of x items are));
  }

  -- past the last end nothing is kept
  pub nothing_kept : (x : List ℤ) (items : List Candidate) (position : ℕ) → hearing.Heard x items
      → length x + 1 ≤ position → not_below position items ≡ []
  nothing_kept x items position are far =
      let near = laws.near (length x) in
      not_below_none position items (All-weaker (λ y. y.end < hearing.past (length x)) (λ y. y.end < position)
      (λ y l. omega arith) items (laws.ends x items are))

  -- more samples change nothing of what is given of the first
  pub given_still : (from to : ℕ) (x y : List ℤ) (items all : List Candidate) → from ≤ to
      → to ≤ hearing.settled (length x)
      → AreMergedBetween hearing.Heard from to x items → hearing.Heard (x ++ y) all
      → items ≡ between from to (merged all)
  given_still from to x y items all le within h whole =
      next_is from to (below from (merged h.candidates)) items (merged all) le (rising_merged (x ++ y) all whole)
      (sym (laws.stays x y h.candidates all from h.are whole (omega arith)))
      (ap (λ t. below from (merged h.candidates) ++ t) h.is
      ∙ below_between from to (merged h.candidates) le (rising_merged x h.candidates h.are)
      ∙ sym (laws.stays x y h.candidates all to h.are whole within))

  -- the items of samples and the next ones are those of all samples
  pub join : (from middle to : ℕ) (x y : List ℤ) (items more : List Candidate) → from ≤ middle → middle ≤ to
      → middle ≤ hearing.settled (length x)
      → AreMergedBetween hearing.Heard from middle x items
      → AreMergedBetween hearing.Heard middle to (x ++ y) more
      → AreMergedBetween hearing.Heard from to (x ++ y) (items ++ more)
  join from middle to x y items more le le' within h k = record {
    candidates = k.candidates;
    are = k.are;
    is = ap (λ t. t ++ more) (given_still from middle x y items k.candidates le within h k.are)
        ∙ ap (λ t. between from middle (merged k.candidates) ++ t) k.is
        ∙ between_between from middle to (merged k.candidates) le le' (rising_merged (x ++ y) k.candidates k.are);
  }

  -- those that end with the samples are all
  pub all_items : (x : List ℤ) (items : List Candidate)
      → AreMergedBetween hearing.Heard 0 (hearing.past (length x)) x items → AreMerged hearing.Heard x items
  all_items x items h = record {
    candidates = h.candidates;
    are = h.are;
    is = h.is ∙ between_all 0 (hearing.past (length x)) (merged h.candidates) (λ k d l. omega arith)
        ∙ below_all_of x h.candidates h.are;
  }
