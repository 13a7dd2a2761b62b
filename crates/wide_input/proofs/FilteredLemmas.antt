-- What a bank is given of filtered samples as they settle is what is given of all filtered samples.
use Rattle.wide_input.proofs.Common.{◌≡◌, ℕ, ◌-◌, ◌/◌, ◌≤◌, ℤ, List, [], ◌++◌, length, ap, sym, subst, ◌∙◌}
use Rattle.wide_input.proofs.Common.{append_assoc, arith, Candidate, merged, below, least_count, AreWideCandidates}
use Rattle.wide_input.proofs.Common.{AreWideMergedBetween, AreWideRest, length-append}
use Rattle.frame_merge.specs.Merged.{between, not_below}
use Rattle.frame_merge.proofs.Merging.{below_between}
use Rattle.frame_merge.proofs.Forgetting.{below_then_rest}
use Rattle.std.proofs.lemmas.List.{append_cancel_left}
use Rattle.resampler.specs.Filtered.{filtered, settled}
use Rattle.resampler.proofs.FilterLemmas.{filtered_begins, filtered_parts, length-settled}
use Rattle.wide_input.specs.MergedItems.{settled_ends}
use Rattle.wide_input.proofs.StreamLemmas.{least_count-is}
use Rattle.wide_input.proofs.WideSteps.{rising_wide}
use Rattle.wide_input.proofs.WideMerged.{one_wide, some_wide, below_still}

-- the least stream of the filtered samples that are settled
pub settled_ends-is : (x : List ℤ) → least_count (settled x) ≡ settled_ends (length x)
settled_ends-is x = omega (arith, least_count-is (settled x), length-settled x)

-- samples that follow change nothing of what is given up to the least stream
between_still : (from to : ℕ) (u v : List ℤ) (items : List Candidate) → from ≤ to → to ≤ least_count u
    → AreWideMergedBetween from to u items → AreWideMergedBetween from to (u ++ v) items
between_still from to u v items le within h =
    let some = some_wide (u ++ v) in
    let all : List Candidate = some.0 in
    let are : AreWideCandidates (u ++ v) all = some.1 in
    let zs : List Candidate = merged h.candidates in
    let ws : List Candidate = merged all in
    let early : below from ws ≡ below from zs = below_still from u v h.candidates all (omega arith) h.are are in
    let soon : below to ws ≡ below to zs = below_still to u v h.candidates all within h.are are in
    record {
      candidates = all;
      are = are;
      is = h.is ∙ append_cancel_left (below from zs) (between from to zs) (between from to ws)
          (below_between from to zs le (rising_wide u h.candidates h.are) ∙ sym soon
          ∙ sym (below_between from to ws le (rising_wide (u ++ v) all are))
          ∙ ap (λ t. t ++ between from to ws) early);
    }

-- so of a block
pub given_filtered : (x y : List ℤ) (items : List Candidate)
    → AreWideMergedBetween (least_count (settled x)) (least_count (settled (x ++ y))) (settled (x ++ y)) items
    → AreWideMergedBetween (settled_ends (length x)) (settled_ends (length (x ++ y))) (filtered (x ++ y)) items
given_filtered x y items h =
    let from : least_count (settled x) ≡ settled_ends (length x) = settled_ends-is x in
    let to : least_count (settled (x ++ y)) ≡ settled_ends (length (x ++ y)) = settled_ends-is (x ++ y) in
    let n : ℕ = settled_ends (length x) in
    let m : ℕ = settled_ends (length (x ++ y)) in
    let rises : n ≤ m = omega (arith, length-append x y) in
    let parts = filtered_parts (x ++ y) in
    subst (λ (u : List ℤ). AreWideMergedBetween n m u items) (sym parts.1)
    (between_still n m (settled (x ++ y)) parts.0 items rises (omega arith)
    (subst (λ (k : ℕ). AreWideMergedBetween n k (settled (x ++ y)) items) to
    (subst (λ (k : ℕ). AreWideMergedBetween k (least_count (settled (x ++ y))) (settled (x ++ y)) items) from h)))

-- and at the end, when the bank has taken all filtered samples
pub rest_filtered : (x u : List ℤ) (items rest : List Candidate) → filtered x ≡ u
    → AreWideMergedBetween (least_count (settled x)) (least_count u) u items
    → AreWideRest (least_count u) u rest
    → AreWideRest (settled_ends (length x)) (filtered x) (items ++ rest)
rest_filtered x u items rest is h last =
    let n : ℕ = least_count (settled x) in
    let m : ℕ = least_count u in
    let zs : List Candidate = merged h.candidates in
    let rises = rising_wide u h.candidates h.are in
    let parts = filtered_parts x in
    let whole : u ≡ settled x ++ parts.0 = sym is ∙ parts.1 in
    let le : n ≤ m = omega (
      arith,
      least_count-is (settled x),
      least_count-is u,
      ap length whole,
      length-append (settled x) parts.0,
    ) in
    let same : merged last.candidates ≡ zs = ap merged (one_wide u last.candidates h.candidates last.are h.are) in
    let joined : items ++ rest ≡ not_below n zs = append_cancel_left (below n zs) (items ++ rest) (not_below n zs)
    (sym (append_assoc (below n zs) items rest)
    ∙ ap (λ t. (below n zs ++ t) ++ rest) h.is
    ∙ ap (λ t. t ++ rest) (below_between n m zs le rises)
    ∙ ap (λ t. below m zs ++ t) (last.is ∙ ap (not_below m) same)
    ∙ below_then_rest m zs rises ∙ sym (below_then_rest n zs rises)) in
    subst (λ (k : ℕ). AreWideRest k (filtered x) (items ++ rest)) (settled_ends-is x)
    (subst (λ (w : List ℤ). AreWideRest n w (items ++ rest)) (sym is)
    (record { candidates = h.candidates; are = h.are; is = joined }))

-- more samples change nothing of what is merged below the settled ends
pub filtered_still : (to : ℕ) (x y : List ℤ) (items all : List Candidate) → to ≤ settled_ends (length x)
    → AreWideCandidates (filtered x) items → AreWideCandidates (filtered (x ++ y)) all
    → below to (merged all) ≡ below to (merged items)
filtered_still to x y items all within are whole =
    let u : List ℤ = settled x in
    let some = some_wide u in
    let few : to ≤ least_count u = omega (arith, settled_ends-is x) in
    let here = filtered_parts x in
    let there = filtered_begins x y in
    below_still to u there.0 some.0 all few some.1
    (subst (λ (w : List ℤ). AreWideCandidates w all) there.1 whole)
    ∙ sym (below_still to u here.0 some.0 items few some.1
    (subst (λ (w : List ℤ). AreWideCandidates w items) here.1 are))
