-- What is heard of samples below a number, with one number more.
use Rattle.sensitive_blocks.proofs.Common.{◌≡◌, ℕ, ◌+◌, ◌-◌, ◌*◌, ◌<◌, ◌≤◌, ℤ, List, [], ◌∷◌, ◌++◌, length, get_or, ap, sym, ◌∙◌}
use Rattle.sensitive_blocks.proofs.Common.{subst, arith, inl, inr, cases_lt, get_or-append-add, get_or_append_left, length_push}
use Rattle.sensitive_blocks.proofs.Common.{All-append, All-cons, All-nil}
use Rattle.sensitive_blocks.proofs.Common.{Contains-append_left, Contains-append_right, Heard, standing, IsHeard, AreHeard, AreHeardBelow}
use Rattle.sensitive_blocks.proofs.OneItem.{end_within, one_standing, tag_below}
use Rattle.sensitive_blocks.proofs.PrefixLemmas.{heard-append, heard-take}

-- nothing stands from one number to below another
pub none_between : (from to : ℕ) (x : List ℤ) (items : List Heard) → from ≤ to → AreHeardBelow from x items
    → ((item : Heard) → IsHeard x item → from ≤ standing item → standing item < to → ⊥) → AreHeardBelow to x items
none_between from to x items le are none = record {
  each = λ k d l. let each = are.each k d l in let below = each.1 in (each.0, omega arith);
  whole = λ item h below. elim (cases_lt (standing item) from) [
    | inl before ↦ are.whole item h before
    | inr after ↦ absurd (none item h after below)
  ];
  order = are.order;
}

-- one item stands at a number
pub one_at : (number : ℕ) (x : List ℤ) (items : List Heard) (item : Heard) → AreHeardBelow number x items
    → IsHeard x item → standing item ≡ number → AreHeardBelow (number + 1) x (items ++ item ∷ [])
one_at number x items item are here at =
    let P : Heard → Type 0 = λ i. IsHeard x i × (standing i < number + 1) in
    record {
      each = All-append P items (item ∷ [])
          (λ k d l. let each = are.each k d l in let below = each.1 in (each.0, omega arith))
          (All-cons P item [] (here, omega arith) (All-nil P));
      whole = λ other h below. elim (cases_lt (standing other) number) [
        | inl before ↦ Contains-append_left items (item ∷ []) other (are.whole other h before)
        | inr last ↦ Contains-append_right items (item ∷ []) other
            (0, omega arith, one_standing x item other here h (omega arith))
      ];
      order = λ i j d ij jl.
          let len = length_push items item in
          let R : Heard → Heard → Type 0 = λ a b. standing a < standing b in
          elim (cases_lt j (length items)) [
            | inl inside ↦
                subst (λ t. R t (get_or (items ++ item ∷ []) j d))
                (sym (get_or_append_left items (item ∷ []) d i (omega arith)))
                (subst (R (get_or items i d)) (sym (get_or_append_left items (item ∷ []) d j inside))
                (are.order i j d ij inside))
            | inr past ↦
                let last : j ≡ length items + 0 = omega arith in
                let at_j : get_or (items ++ item ∷ []) j d ≡ item =
                ap (λ t. get_or (items ++ item ∷ []) t d) last ∙ get_or-append-add items (item ∷ []) 0 d in
                let each = are.each i d (omega arith) in
                let below = each.1 in
                subst (λ t. R t (get_or (items ++ item ∷ []) j d))
                (sym (get_or_append_left items (item ∷ []) d i (omega arith)))
                (subst (R (get_or items i d)) (sym at_j)
                (let less : standing (get_or items i d) < standing item = omega arith in less))
          ];
    }

-- of no samples, and below number 0, nothing is heard
pub none_below : (x : List ℤ) → AreHeardBelow 0 x []
none_below x = record {
  each = All-nil (λ item. IsHeard x item × (standing item < 0));
  whole = λ item h below. absurd (omega arith);
  order = λ i j d ij jl. absurd (omega arith);
}

-- below the number after the last end is all
pub all_below : (x : List ℤ) (items : List Heard) → AreHeardBelow (65536 * (length x + 1)) x items → AreHeard x items
all_below x items are = record {
  each = λ k d l. (are.each k d l).0;
  whole = λ item h.
      let within = end_within x item h in
      let tag = tag_below x item h in
      let lane = h.lane in
      are.whole item h (omega arith);
  order = are.order;
}

-- more samples change nothing of what is settled
pub below-append : (x y : List ℤ) (end : ℕ) (items : List Heard) → end ≤ length x - 32
    → AreHeardBelow (65536 * end) x items → AreHeardBelow (65536 * end) (x ++ y) items
below-append x y end items inside are = record {
  each = λ k d l.
      let each = are.each k d l in
      let below = each.1 in
      let bound : (get_or items k d).end < end = omega arith in
      (heard-append x y (get_or items k d) (omega arith) each.0, each.1);
  whole = λ item h below.
      let bound : item.end < end = omega arith in
      are.whole item (heard-take x y item (omega arith) h) below;
  order = are.order;
}
