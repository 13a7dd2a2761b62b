-- Samples have one list of what is heard of them: it strictly rises, and it is found sample by sample and tag by tag.
use Rattle.fx25_receiver.proofs.Common.{◌≡◌, ℕ, zero, suc, ◌+◌, ◌-◌, ◌*◌, ◌%◌, ◌<◌, ◌≤◌, ℤ, Bool, List, [], ◌∷◌}
use Rattle.fx25_receiver.proofs.Common.{◌++◌, length, get_or, ap, sym, ◌∙◌, subst, refl, arith, inl, inr, cases_lt}
use Rattle.fx25_receiver.proofs.Common.{append-nil, append_assoc, length_push, length-bits, bits, AllPairs, Contains}
use Rattle.fx25_receiver.proofs.Common.{All, All-append, All-cons, All-nil, All-weaker}
use Rattle.fx25_receiver.proofs.Common.{certainties, AreHeard, AreHeardBelow, EndsUnsureBlock, Heard, IsAt, IsTag, Place, block_length, standing}
use Rattle.slicer_bank.proofs.FrameDecided.{frame_or_none}
use Rattle.fx25_receiver.proofs.UnsureDecided.{unsure_block_or_none}
use Rattle.fx25_receiver.proofs.HeardLemmas.{heard_early, heard_finish, heard_start, none_there, nothing_heard, one_there}
use Rattle.fx25_receiver.proofs.LaneLemmas.{window_there}
use Rattle.fx25_receiver.proofs.TakenLemmas.{only_in_block, only_plain, unsure_block_bounds}

-- ---- one list

abbrev pub Rises : List Heard → Type 0
Rises = AllPairs (λ item later. standing item < standing later)

abbrev pub HasAll : List Heard → List Heard → Type 0
HasAll xs ys = (k : ℕ) (d : Heard) → k < length xs → Contains ys (get_or xs k d)

-- the head of one list is the head of the other
same_head : (x y : Heard) (xs ys : List Heard) → Rises (x ∷ xs) → Rises (y ∷ ys) → Contains (y ∷ ys) x
    → Contains (x ∷ xs) y → x ≡ y
same_head x y xs ys rx ry (zero, within, is) there = sym is
same_head x y xs ys rx ry (suc i, within, is) (zero, there, was) = was
same_head x y xs ys rx ry (suc i, within, is) (suc j, there, was) =
    let later_y = ry 0 (suc i) x (omega arith) within in
    let later_x = rx 0 (suc j) y (omega arith) there in
    let at_x : standing (get_or ys i x) ≡ standing x = ap standing is in
    let at_y : standing (get_or xs j y) ≡ standing y = ap standing was in
    absurd (omega arith)

-- what the tail of one list has is in the tail of the other
tail_has : (x : Heard) (xs ys : List Heard) → Rises (x ∷ xs) → HasAll (x ∷ xs) (x ∷ ys) → HasAll xs ys
tail_has x xs ys rx has k d l = go (has (suc k) d (omega arith))
  where
    go : Contains (x ∷ ys) (get_or xs k d) → Contains ys (get_or xs k d)
    go (zero, within, is) =
        let later = rx 0 (suc k) d (omega arith) (omega arith) in
        let same : standing x ≡ standing (get_or xs k d) = ap standing is in
        absurd (omega arith)
    go (suc i, within, is) = (i, omega arith, is)

tail_rises : (x : Heard) (xs : List Heard) → Rises (x ∷ xs) → Rises xs
tail_rises x xs h i j d ij jl = h (suc i) (suc j) d (omega arith) (omega arith)

pub same_list : (xs ys : List Heard) → Rises xs → Rises ys → HasAll xs ys → HasAll ys xs → xs ≡ ys
same_list [] [] rx ry a b = refl
same_list [] (y ∷ ys) rx ry a b = let c = (b 0 y (omega arith)).1 in absurd (omega arith)
same_list (x ∷ xs) [] rx ry a b = let c = (a 0 x (omega arith)).1 in absurd (omega arith)
same_list (x ∷ xs) (y ∷ ys) rx ry a b =
    let head : x ≡ y = same_head x y xs ys rx ry (a 0 x (omega arith)) (b 0 y (omega arith)) in
    let a' : HasAll (x ∷ xs) (x ∷ ys) = subst (λ t. HasAll (x ∷ xs) (t ∷ ys)) (sym head) a in
    let b' : HasAll (x ∷ ys) (x ∷ xs) = subst (λ t. HasAll (t ∷ ys) (x ∷ xs)) (sym head) b in
    let ry' : Rises (x ∷ ys) = subst (λ t. Rises (t ∷ ys)) (sym head) ry in
    ap (λ t. x ∷ t) (same_list xs ys (tail_rises x xs rx) (tail_rises x ys ry') (tail_has x xs ys rx a')
    (tail_has x ys xs ry' b'))
    ∙ ap (λ t. t ∷ ys) head

pub one_list : (x : List ℤ) (items others : List Heard) → AreHeard x items → AreHeard x others → items ≡ others
one_list x items others a b =
    same_list items others a.order b.order
    (λ k d l. b.whole (get_or items k d) (a.each k d l))
    (λ k d l. a.whole (get_or others k d) (b.each k d l))

-- ---- some list

-- one more at the end of what ends with the last sample
abbrev EndAt : ℕ → List Heard → Type 0
EndAt count more = All (λ item. item.end ≡ count) more

module _ (place : Place) (x : List ℤ) (at : IsAt place x) (items : List Heard) where
  -- what is heard below a tag begins with these items, and the others end with the last sample
  abbrev Taken : ℕ → Type 0
  Taken tag = (more : List Heard) × AreHeardBelow tag x (items ++ more) × EndAt (length x) more

  there : List Bool
  there = bits place.offset x

  numbers : List ℕ
  numbers = certainties place.offset x

  add_one : (tag : ℕ) (more : List Heard) (item : Heard) → item.end ≡ length x → EndAt (length x) more
      → AreHeardBelow tag x ((items ++ more) ++ item ∷ []) → Taken tag
  add_one tag more item end ends are = (
    more ++ item ∷ [],
    subst (AreHeardBelow tag x) (append_assoc items more (item ∷ [])) are,
    All-append (λ i. i.end ≡ length x) more (item ∷ []) ends
        (All-cons (λ i. i.end ≡ length x) item [] end (All-nil (λ i. i.end ≡ length x))),
  )

  with_plain : AreHeardBelow 0 x (items ++ []) → Taken 1
  unfolding there numbers
  with_plain are = elim (frame_or_none there) [
    | inr none ↦ (
      [],
      none_there place x at 0 (items ++ []) are (λ item ends same. elim ends [
        | inl plain ↦ none item.octets plain.2
        | inr block ↦ let least = block.1.is_tag.0 in absurd (omega arith)
      ]),
      All-nil (λ i. i.end ≡ length x),
    )
    | inl frame ↦
        let item : Heard = record {
          end = place.end;
          lane = place.offset;
          tag = 0;
          octets = frame.0;
          at = place.end;
        } in
        add_one 1 [] item at.end_is (All-nil (λ i. i.end ≡ length x))
        (one_there place x at (items ++ []) item are refl refl (inl (refl, refl, frame.1))
        (only_plain place x at item refl refl frame.1))
  ]

  with_block : (tag : ℕ) → IsTag tag → Taken tag → Taken (tag + 1)
  unfolding there numbers
  with_block tag is_tag (more, are, ends_all) = elim (unsure_block_or_none tag is_tag there numbers) [
    | inr none ↦ (
      more,
      none_there place x at tag (items ++ more) are (λ item ends same. elim ends [
        | inl plain ↦ let zero_of = plain.0 in let least = is_tag.0 in absurd (omega arith)
        | inr block ↦ none (
          item.octets,
          block.0,
          subst (λ t. EndsUnsureBlock there numbers t item.octets block.0)
              same block.1,
        )
      ]),
      ends_all,
    )
    | inl block ↦
        let over = block.1 in
        let bounds = unsure_block_bounds there numbers tag block.0 over block.2 in
        let count = length-bits place.offset x in
        let size = at.end_is in
        let least = bounds.0 in
        let item : Heard = record {
          end = place.end;
          lane = place.offset;
          tag = tag;
          octets = block.0;
          at = place.end - 64 * block_length tag + 8 * over;
        } in
        let placed : item.at + 8 * (8 * block_length tag) ≡ item.end + 8 * over = omega arith in
        add_one (tag + 1) more item at.end_is ends_all
        (one_there place x at (items ++ more) item are refl refl (inr (over, block.2, placed))
        (only_in_block place x at item over block.2 placed))
  ]

  with_blocks : (count : ℕ) → count ≤ 11 → Taken 1 → Taken (count + 1)
  with_blocks zero most taken = taken
  with_blocks (suc count) most taken =
      let next : suc count ≡ count + 1 = omega arith in
      subst (λ n. Taken (n + 1)) (sym next)
      (with_block (count + 1) (omega arith, omega arith) (with_blocks count (omega arith) taken))

  pub with_all : AreHeardBelow 0 x items
      → (more : List Heard) × AreHeard x (items ++ more) × EndAt (length x) more
  with_all are =
      let taken = with_blocks 11 (omega arith)
      (with_plain (subst (AreHeardBelow 0 x) (sym (append-nil items)) are)) in
      (taken.0, heard_finish x (items ++ taken.0) taken.1, taken.2)

-- what is heard of more samples begins with what is heard of the first ones
abbrev Adds : List ℤ → List ℤ → List Heard → Type 0
Adds x y items = (more : List Heard) × AreHeard (x ++ y) (items ++ more) × All (λ item. length x < item.end) more

with_sample : (x : List ℤ) (sample : ℤ) (items : List Heard) → AreHeard x items → Adds x (sample ∷ []) items
with_sample x sample items are =
    let all = x ++ sample ∷ [] in
    let size = length_push x sample in
    elim (cases_lt (length x + 1) 8) [
      | inl few ↦ (
        [],
        subst (AreHeard all) (sym (append-nil items)) (heard_early all 0 items (omega arith)
            (heard_start x sample items are)),
        All-nil (λ item. length x < item.end),
      )
      | inr enough ↦
          let place : Place = record { offset = (length x + 1) % 8; end = length x + 1 } in
          let at : IsAt place all = record {
            offset = omega arith;
            window = window_there x sample place.offset refl (omega arith);
            end_is = omega arith;
          } in
          let found = with_all place all at items (heard_start x sample items are) in (
            found.0,
            found.1,
            All-weaker (λ item. item.end ≡ length all) (λ item. length x < item.end)
                (λ item end. omega arith) found.0 found.2,
          )
    ]

pub with_more : (x y : List ℤ) (items : List Heard) → AreHeard x items → Adds x y items
with_more x [] items are = (
  [],
  subst (AreHeard (x ++ [])) (sym (append-nil items)) (subst (λ xs. AreHeard xs items) (sym (append-nil x)) are),
  All-nil (λ item. length x < item.end),
)
with_more x (sample ∷ y) items are =
    let size = length_push x sample in
    let next = with_sample x sample items are in
    let rest = with_more (x ++ sample ∷ []) y (items ++ next.0) next.1 in
    let whole = subst (AreHeard ((x ++ sample ∷ []) ++ y)) (append_assoc items next.0 rest.0) rest.1 in (
      next.0 ++ rest.0,
      subst (λ xs. AreHeard xs (items ++ (next.0 ++ rest.0))) (append_assoc x (sample ∷ []) y) whole,
      All-append (λ item. length x < item.end) next.0 rest.0 next.2
          (All-weaker (λ item. length (x ++ sample ∷ []) < item.end) (λ item. length x < item.end)
          (λ item end. omega arith) rest.0 rest.2),
    )

pub some_list : (x : List ℤ) → (items : List Heard) × AreHeard x items
some_list x = let found = with_more [] x [] nothing_heard in (found.0, found.1)
