-- What is heard of samples, with one sample more.
use Rattle.fx25_receiver.proofs.Common.{Bool}
use Rattle.fx25_receiver.proofs.Common.{◌≡◌, ℕ, ◌+◌, ◌<◌, ◌≤◌, ℤ, List, [], ◌∷◌, ◌++◌, length, get_or, take}
use Rattle.fx25_receiver.proofs.Common.{ap}
use Rattle.fx25_receiver.proofs.Common.{sym, ◌∙◌, subst, arith, inl, inr, AllPairs, All-append, All-cons}
use Rattle.fx25_receiver.proofs.Common.{All-nil, cases_lt, Contains-append_left, Contains-append_right}
use Rattle.fx25_receiver.proofs.Common.{get_or-append-add, get_or_append_left, length_push, take_all}
use Rattle.fx25_receiver.proofs.Common.{bits, bits-append, length-bits, windows_in, Heard, AreHeard, AreHeardBelow}
use Rattle.fx25_receiver.proofs.Common.{certainties, EndsLast, EndsWithBits, IsAt, IsBelow, IsHeard, Place, standing}
use Rattle.fx25_receiver.proofs.CertaintyLemmas.{certainties-append, length-certainties}
use Rattle.offset_slicers.proofs.TonesOfWindows.{first_of}

-- an item ends within the samples
pub end_within : (x : List ℤ) (item : Heard) → IsHeard x item → item.end ≤ length x
end_within x item h = let n = length-bits item.lane x in let w = h.ends.within in let e = h.ends.end_of in omega arith

-- a tag is at most 11
pub tag_below : (x : List ℤ) (item : Heard) → IsHeard x item → item.tag < 12
tag_below x item h = elim h.ends.ends [
  | inl plain ↦ let none = plain.0 in omega arith
  | inr block ↦ let is_tag = block.1.is_tag in let most = is_tag.1 in omega arith
]

-- the bits that the first samples give
first_bits : (lane : ℕ) (x y : List ℤ) (index : ℕ) → index < length (bits lane x)
    → (index < length (bits lane (x ++ y))) × (take (index + 1) (bits lane (x ++ y)) ≡ take (index + 1) (bits lane x))
first_bits lane x y index =
    first_of (bits lane x) (bits lane (x ++ y)) (windows_in lane (length x)) index (bits-append lane x y)

-- and their numbers
first_numbers : (lane : ℕ) (x y : List ℤ) (index : ℕ) → index < length (bits lane x)
    → take (index + 1) (certainties lane (x ++ y)) ≡ take (index + 1) (certainties lane x)
first_numbers lane x y index within =
    let as_many = length-bits lane x ∙ sym (length-certainties lane x) in
    (first_of (certainties lane x) (certainties lane (x ++ y)) (windows_in lane (length x)) index
    (certainties-append lane x y) (omega arith)).1

-- what ends with some bits and numbers ends with those that are the same
pub ends_alike : (a b : List Bool) (m n : List ℕ) (item : Heard) → a ≡ b → m ≡ n → EndsWithBits a m item
    → EndsWithBits b n item
ends_alike a b m n item bits_same numbers_same ends =
    subst (λ bs. EndsWithBits bs n item) bits_same (subst (λ ns. EndsWithBits a ns item) numbers_same ends)

-- an item of the first samples is one of them all
pub heard_more : (x y : List ℤ) (item : Heard) → IsHeard x item → IsHeard (x ++ y) item
heard_more x y item h =
    let first = first_bits item.lane x y h.index h.ends.within in
    record {
      lane = h.lane;
      index = h.index;
      ends = record {
        within = first.0;
        end_of = h.ends.end_of;
        ends = ends_alike _ _ _ _ item (sym first.1) (sym (first_numbers item.lane x y h.index h.ends.within))
            h.ends.ends;
      };
    }

-- an item that ends within the first samples is one of them
heard_less : (x y : List ℤ) (item : Heard) → IsHeard (x ++ y) item → item.end ≤ length x → IsHeard x item
heard_less x y item h e =
    let n = length-bits item.lane x in
    let end = h.ends.end_of in
    let within : h.index < length (bits item.lane x) = omega arith in
    record {
      lane = h.lane;
      index = h.index;
      ends = record {
        within = within;
        end_of = h.ends.end_of;
        ends = ends_alike _ _ _ _ item (first_bits item.lane x y h.index within).1
            (first_numbers item.lane x y h.index within) h.ends.ends;
      };
    }

-- what ends with the last of the samples ends with the last of its lane's bits
ends_with_last : (x : List ℤ) (item : Heard) → IsHeard x item → item.end ≡ length x
    → EndsLast item.lane x item
ends_with_last x item h e =
    let n = length-bits item.lane x in
    let end = h.ends.end_of in
    let all : take (h.index + 1) (bits item.lane x) ≡ bits item.lane x =
    take_all (h.index + 1) (bits item.lane x) (omega arith) in
    let numbers : take (h.index + 1) (certainties item.lane x) ≡ certainties item.lane x =
    take_all (h.index + 1) (certainties item.lane x) (omega (arith, length-certainties item.lane x)) in
    ends_alike _ _ _ _ item all numbers h.ends.ends

module _ (place : Place) (x : List ℤ) (at : IsAt place x) where
  -- only one lane has a bit that ends with the last of the samples
  pub same_lane : (item : Heard) → IsHeard x item → item.end ≡ length x → item.lane ≡ place.offset
  same_lane item h e =
      let end = h.ends.end_of in
      let below = h.lane in
      let small = at.offset in
      let window = at.window.1 in
      omega arith

  pub ends_there : (item : Heard) → IsHeard x item → item.end ≡ length x → EndsLast place.offset x item
  ends_there item h e = subst (λ lane. EndsLast lane x item) (same_lane item h e) (ends_with_last x item h e)

  -- and what ends with that bit is heard
  pub heard_there : (item : Heard) → item.lane ≡ place.offset → item.end ≡ place.end
      → EndsLast place.offset x item → IsHeard x item
  heard_there item lane end ends =
      let n = length-bits item.lane x in
      let small = at.offset in
      let window = at.window.1 in
      let size = at.end_is in
      let all : take (at.window.0 + 1) (bits item.lane x) ≡ bits item.lane x =
      take_all (at.window.0 + 1) (bits item.lane x) (omega arith) in
      let numbers : take (at.window.0 + 1) (certainties item.lane x) ≡ certainties item.lane x =
      take_all (at.window.0 + 1) (certainties item.lane x) (omega (arith, length-certainties item.lane x)) in
      record {
        lane = omega arith;
        index = at.window.0;
        ends = record {
          within = omega arith;
          end_of = omega arith;
          ends = ends_alike _ _ _ _ item (sym all) (sym numbers)
              (subst (λ l. EndsLast l x item) (sym lane) ends);
        };
      }

  -- nothing with the next tag ends there
  pub none_there : (tag : ℕ) (items : List Heard) → AreHeardBelow tag x items
      → ((item : Heard) → EndsLast place.offset x item → item.tag ≡ tag → ⊥)
      → AreHeardBelow (tag + 1) x items
  none_there tag items are none = record {
    each = λ k d l. let each = are.each k d l in (each.0, wider (get_or items k d) each.1);
    whole = λ item h below. elim below [
      | inl before ↦ are.whole item h (inl before)
      | inr lower ↦ elim (cases_lt item.end (length x)) [
        | inl before ↦ are.whole item h (inl before)
        | inr last ↦ elim (cases_lt item.tag tag) [
          | inl less ↦ are.whole item h (inr less)
          | inr not_less ↦
              let within = end_within x item h in
              absurd (none item (ends_there item h (omega arith)) (omega arith))
        ]
      ]
    ];
    order = are.order;
  }
    where
      wider : (item : Heard) → IsBelow tag x item → IsBelow (tag + 1) x item
      wider item (inl before) = inl before
      wider item (inr less) = inr (omega arith)

  -- one does
  pub one_there : (items : List Heard) (item : Heard) → AreHeardBelow item.tag x items → item.lane ≡ place.offset
      → item.end ≡ place.end → EndsLast place.offset x item
      → ((other : Heard) → other.lane ≡ item.lane → other.end ≡ item.end → other.tag ≡ item.tag
      → EndsLast place.offset x other → item ≡ other)
      → AreHeardBelow (item.tag + 1) x (items ++ item ∷ [])
  one_there items item are lane end ends only =
      let P : Heard → Type 0 = λ i. IsHeard x i × IsBelow (item.tag + 1) x i in
      let here = heard_there item lane end ends in
      let size = at.end_is in
      record {
        each = All-append P items (item ∷ [])
            (λ k d l. let each = are.each k d l in (each.0, wider (get_or items k d) each.1))
            (All-cons P item [] (here, inr (omega arith)) (All-nil P));
        whole = λ other h below. elim (cases_lt other.end (length x)) [
          | inl before ↦ Contains-append_left items (item ∷ []) other (are.whole other h (inl before))
          | inr last ↦ elim (cases_lt other.tag item.tag) [
            | inl less ↦ Contains-append_left items (item ∷ []) other (are.whole other h (inr less))
            | inr not_less ↦
                let within = end_within x other h in
                let ended : other.end ≡ length x = omega arith in
                let alike : other.tag ≡ item.tag = elim below [
                  | inl before ↦ omega arith
                  | inr lower ↦ omega arith
                ] in
                let is : item ≡ other = only other (same_lane other h ended ∙ sym lane) (omega arith) alike
                (ends_there other h ended) in
                Contains-append_right items (item ∷ []) other (0, omega arith, is)
          ]
        ];
        order = in_order items are here;
      }
    where
      wider : (other : Heard) → IsBelow item.tag x other → IsBelow (item.tag + 1) x other
      wider other (inl before) = inl before
      wider other (inr less) = inr (omega arith)

      lower : (other : Heard) → IsHeard x other → IsBelow item.tag x other → IsHeard x item
          → standing other < standing item
      lower other h (inl before) here =
          let tag = tag_below x other h in
          let lane_small = h.lane in
          let size = at.end_is in
          omega arith
      lower other h (inr less) here = elim (cases_lt other.end (length x)) [
        | inl before ↦
            let tag = tag_below x other h in
            let lane_small = h.lane in
            let size = at.end_is in
            omega arith
        | inr last ↦
            let within = end_within x other h in
            let ended : other.end ≡ length x = omega arith in
            let same = same_lane other h ended in
            let size = at.end_is in
            omega arith
      ]

      in_order : (items : List Heard) → AreHeardBelow item.tag x items → IsHeard x item
          → AllPairs (λ i later. standing i < standing later) (items ++ item ∷ [])
      in_order items are here i j d ij jl =
          let len = length_push items item in
          let R : Heard → Heard → Type 0 = λ a b. standing a < standing b in
          elim (cases_lt j (length items)) [
            | inl inside ↦
                subst (λ t. R t (get_or (items ++ item ∷ []) j d))
                (sym (get_or_append_left items (item ∷ []) d i (omega arith)))
                (subst (R (get_or items i d)) (sym (get_or_append_left items (item ∷ []) d j inside))
                (are.order i j d ij inside))
            | inr past ↦
                let last : j ≡ length items + 0 = omega arith in
                let at_j : get_or (items ++ item ∷ []) j d ≡ item =
                ap (λ t. get_or (items ++ item ∷ []) t d) last ∙ get_or-append-add items (item ∷ []) 0 d in
                let each = are.each i d (omega arith) in
                subst (λ t. R t (get_or (items ++ item ∷ []) j d))
                (sym (get_or_append_left items (item ∷ []) d i (omega arith)))
                (subst (R (get_or items i d)) (sym at_j) (lower (get_or items i d) each.0 each.1 here))
          ]

-- with one sample more, all that was heard ends before it
pub heard_start : (x : List ℤ) (sample : ℤ) (items : List Heard) → AreHeard x items
    → AreHeardBelow 0 (x ++ sample ∷ []) items
heard_start x sample items are =
    let size = length_push x sample in
    record {
      each = λ k d l.
          let each = are.each k d l in
          let within = end_within x (get_or items k d) each in
          (heard_more x (sample ∷ []) (get_or items k d) each, inl (omega arith));
      whole = λ item h below. elim below [
        | inl before ↦ are.whole item (heard_less x (sample ∷ []) item h (omega arith))
        | inr none ↦ absurd (omega arith)
      ];
      order = are.order;
    }

-- below tag 12 is all
pub heard_finish : (x : List ℤ) (items : List Heard) → AreHeardBelow 12 x items → AreHeard x items
heard_finish x items are = record {
  each = λ k d l. (are.each k d l).0;
  whole = λ item h. are.whole item h (inr (tag_below x item h));
  order = are.order;
}

-- more samples of which nothing is heard
pub heard_no_more : (x y : List ℤ) (items : List Heard) → AreHeard x items
    → ((item : Heard) → IsHeard (x ++ y) item → length x < item.end → ⊥) → AreHeard (x ++ y) items
heard_no_more x y items are none = record {
  each = λ k d l. heard_more x y (get_or items k d) (are.each k d l);
  whole = λ item h. elim (cases_lt (length x) item.end) [
    | inl past ↦ absurd (none item h past)
    | inr within ↦ are.whole item (heard_less x y item h within)
  ];
  order = are.order;
}

-- before the eighth sample nothing is heard
pub heard_early : (x : List ℤ) (tag : ℕ) (items : List Heard) → length x < 8 → AreHeardBelow tag x items
    → AreHeard x items
heard_early x tag items few are = record {
  each = λ k d l. (are.each k d l).0;
  whole = λ item h.
      let within = end_within x item h in
      let end = h.ends.end_of in
      absurd (omega arith);
  order = are.order;
}

-- of no samples nothing is heard
pub nothing_heard : AreHeard [] []
nothing_heard = record {
  each = All-nil (IsHeard []);
  whole = λ item h.
      let within = end_within [] item h in
      let end = h.ends.end_of in
      absurd (omega arith);
  order = λ i j d ij jl. absurd (omega arith);
}
