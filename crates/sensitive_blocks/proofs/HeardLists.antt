-- Samples have one list of what is heard of them: it strictly rises, and it is found number by number.
use Rattle.sensitive_blocks.proofs.Common.{◌≡◌, ℕ, zero, suc, ◌+◌, ◌-◌, ◌*◌, ◌/◌, ◌%◌, ◌<◌, ◌≤◌, ◌⊎◌, ℤ, Bool, true, false, List, []}
use Rattle.sensitive_blocks.proofs.Common.{◌∷◌, ◌++◌, length, get_or, ap, sym, ◌∙◌, subst, refl, arith, inl, inr, cases_lt, cases_eq}
use Rattle.sensitive_blocks.proofs.Common.{append-nil, append_assoc, All, All-append, All-cons, All-nil, All-weaker, true≢false}
use Rattle.sensitive_blocks.proofs.Common.{AreHeard, AreHeardBelow, EndsUnsureBlock, EndsFrame, EndsInBlock, EndsPlainly, HasPath, Heard, IsHeard}
use Rattle.sensitive_blocks.proofs.Common.{IsTag, IsTold, block_length, ends, is_in_time, lane_bits, place_for, reads, standing}
use Rattle.sensitive_blocks.proofs.Common.{lane_certainties}
use Rattle.slicer_bank.proofs.FrameDecided.{frame_or_none}
use Rattle.hdlc_framer.proofs.FrameEnds.{one_frame}
use Rattle.fx25_receiver.proofs.UnsureDecided.{unsure_block_or_none}
use Rattle.fx25_receiver.proofs.HeardLists.{same_list}
use Rattle.fx25_receiver.proofs.TakenLemmas.{unsure_block_bounds}
use Rattle.sensitive_receiver.proofs.PathDecided.{path_or_none}
use Rattle.sensitive_blocks.proofs.HeardBelow.{all_below, none_below, none_between, one_at}
use Rattle.sensitive_blocks.proofs.OneItem.{tag_below}

-- ---- one list

pub one_list : (x : List ℤ) (items others : List Heard) → AreHeard x items → AreHeard x others → items ≡ others
one_list x items others a b =
    same_list items others a.order b.order
    (λ k d l. b.whole (get_or items k d) (a.each k d l))
    (λ k d l. a.whole (get_or others k d) (b.each k d l))

-- ---- some list

-- an item stands at a number
abbrev Found : List ℤ → ℕ → Type 0
Found x number = (item : Heard) × IsHeard x item × (standing item ≡ number)

-- whether a frame is told
told_or_not : (x : List ℤ) (lane end : ℕ) (octets : List ℕ) → IsTold x lane end octets ⊎ (IsTold x lane end octets → ⊥)
told_or_not x lane end octets = elim (cases_lt lane 8) [
  | inl window ↦ inl (inl window)
  | inr added ↦ elim (path_or_none octets) [
    | inr none ↦ inr (λ told. elim told [ inl window ↦ absurd (omega arith) | inr both ↦ none both.0 ])
    | inl path ↦ in_time added path (is_in_time x lane (place_for lane end)) refl
  ]
]
  where
    in_time : 8 ≤ lane → HasPath octets → (b : Bool) → is_in_time x lane (place_for lane end) ≡ b
        → IsTold x lane end octets ⊎ (IsTold x lane end octets → ⊥)
    in_time added path true is = inl (inr (path, is))
    in_time added path false is = inr (λ told. elim told [
      | inl window ↦ absurd (omega arith)
      | inr both ↦ true≢false (sym both.1 ∙ is)
    ])

module _ (x : List ℤ) (lane end : ℕ) (small : lane < 26) (read : reads x lane end ≡ true) where
  there : List Bool
  there = lane_bits x lane (end + 1)

  sure : List ℕ
  sure = lane_certainties x lane (end + 1)

  plain_or_none : Found x (65536 * end + (256 * lane + 0)) ⊎ (Found x (65536 * end + (256 * lane + 0)) → ⊥)
  unfolding there
  plain_or_none = elim (frame_or_none there) [
    | inr none ↦ inr (λ found. named found none)
    | inl frame ↦ elim (told_or_not x lane end frame.0) [
      | inl told ↦
          let item : Heard = record { end = end; lane = lane; tag = 0; octets = frame.0; at = end } in
          let plain : EndsPlainly x item = record { tag = refl; at = refl; frame = frame.1; told = told } in
          inl (item, record { lane = small; reads = read; ends = inl plain }, refl)
      | inr not_told ↦ inr (λ found. named_told found frame.0 frame.1 not_told)
    ]
  ]
    where
      ends_of : (found : Found x (65536 * end + (256 * lane + 0))) → (found.0.tag ≡ 0) × (found.0.lane ≡ lane) × (found.0.end ≡ end)
      ends_of (item, h, at) =
          let tag = tag_below x item h in
          let low = h.lane in
          (omega arith, omega arith, omega arith)

      plain_of : (found : Found x (65536 * end + (256 * lane + 0)))
          → EndsFrame (lane_bits x lane (end + 1)) found.0.octets × IsTold x lane end found.0.octets
      plain_of (item, h, at) =
          let e = ends_of (item, h, at) in
          elim h.ends [
            | inl plain ↦ (
              subst (λ k. EndsFrame (lane_bits x lane (k + 1)) item.octets) e.2
                  (subst (λ l. EndsFrame (lane_bits x l (item.end + 1)) item.octets) e.1 plain.frame),
              subst (λ k. IsTold x lane k item.octets) e.2 (subst (λ l. IsTold x l item.end item.octets) e.1 plain.told),
            )
            | inr block ↦ let least = block.block.is_tag.0 in let none = e.0 in absurd (omega arith)
          ]

      named : Found x (65536 * end + (256 * lane + 0)) → ((octets : List ℕ) → EndsFrame (lane_bits x lane (end + 1)) octets → ⊥) → ⊥
      named found none = none found.0.octets (plain_of found).0

      named_told : (found : Found x (65536 * end + (256 * lane + 0))) → (octets : List ℕ)
          → EndsFrame (lane_bits x lane (end + 1)) octets → (IsTold x lane end octets → ⊥) → ⊥
      named_told found octets frame not_told =
          not_told (subst (IsTold x lane end) (one_frame (lane_bits x lane (end + 1)) found.0.octets octets (plain_of found).0 frame).0
          (plain_of found).1)

  in_block_or_none : (tag : ℕ) → IsTag tag
      → Found x (65536 * end + (256 * lane + tag)) ⊎ (Found x (65536 * end + (256 * lane + tag)) → ⊥)
  unfolding there sure
  in_block_or_none tag is_tag = elim (unsure_block_or_none tag is_tag there sure) [
    | inr none ↦ inr (λ found. named found none)
    | inl block ↦
        let over = block.1 in
        let bounds = unsure_block_bounds there sure tag block.0 over block.2 in
        let least = bounds.0 in
        let index : ℕ = length there + over - (8 * block_length tag + 1) in
        let item : Heard = record {
          end = end;
          lane = lane;
          tag = tag;
          octets = block.0;
          at = get_or (ends x lane (end + 1)) index 0;
        } in
        let ends_in : EndsInBlock x item = record {
          over = over;
          block = block.2;
          index = index;
          index_is = omega arith;
          at = refl;
        } in
        inl (item, record { lane = small; reads = read; ends = inr ends_in }, refl)
  ]
    where
      named : Found x (65536 * end + (256 * lane + tag))
          → (((frame : List ℕ) × (over : ℕ)
          × EndsUnsureBlock (lane_bits x lane (end + 1)) (lane_certainties x lane (end + 1)) tag frame over) → ⊥) → ⊥
      named (item, h, at) none =
          let tag_small = tag_below x item h in
          let low = h.lane in
          let first = is_tag.0 in
          let most = is_tag.1 in
          let lane_is : item.lane ≡ lane = omega arith in
          let end_is : item.end ≡ end = omega arith in
          let tag_is : item.tag ≡ tag = omega arith in
          elim h.ends [
            | inl plain ↦ let zero_of = plain.tag in absurd (omega arith)
            | inr block ↦ none (
              item.octets,
              block.over,
              subst (λ t. EndsUnsureBlock (lane_bits x lane (end + 1)) (lane_certainties x lane (end + 1)) t item.octets block.over)
                  tag_is (subst (λ k. EndsUnsureBlock (lane_bits x lane (k + 1)) (lane_certainties x lane (k + 1)) item.tag
                  item.octets block.over) end_is
                  (subst (λ l. EndsUnsureBlock (lane_bits x l (item.end + 1)) (lane_certainties x l (item.end + 1)) item.tag
                  item.octets block.over) lane_is block.block)),
            )
          ]

-- the end, the lane and the tag of an item, as its number tells them
parts_of : (x : List ℤ) (number : ℕ) (found : Found x number) → (found.0.end ≡ number / 65536)
    × (found.0.lane ≡ number / 256 % 256) × (found.0.tag ≡ number % 256) × (found.0.lane < 26) × (found.0.tag < 12)
parts_of x number (item, h, at) =
    let tag = tag_below x item h in
    let low = h.lane in
    (omega arith, omega arith, omega arith, low, tag)

-- where a lane reads
at_read : (x : List ℤ) (number end lane tag : ℕ) → lane < 26 → tag < 12 → 65536 * end + (256 * lane + tag) ≡ number
    → reads x lane end ≡ true → Found x number ⊎ (Found x number → ⊥)
at_read x number end lane tag small few is read = elim (cases_eq tag 0) [
  | inl none ↦ subst (λ n. Found x n ⊎ (Found x n → ⊥))
      (ap (λ t. 65536 * end + (256 * lane + t)) (sym none) ∙ is) (plain_or_none x lane end small read)
  | inr some ↦ subst (λ n. Found x n ⊎ (Found x n → ⊥)) is
      (in_block_or_none x lane end small read tag (omega arith, omega arith))
]

item_or_none : (x : List ℤ) (number : ℕ) → Found x number ⊎ (Found x number → ⊥)
item_or_none x number = elim (cases_lt (number / 256 % 256) 26) [
  | inr large ↦ inr (λ found. let parts = parts_of x number found in
      let lane = parts.1 in let low = parts.3 in absurd (omega arith))
  | inl small ↦ elim (cases_lt (number % 256) 12) [
    | inr large ↦ inr (λ found. let parts = parts_of x number found in
        let tag = parts.2 in let low = parts.4 in absurd (omega arith))
    | inl few ↦ by_read small few (reads x (number / 256 % 256) (number / 65536)) refl
  ]
]
  where
    by_read : number / 256 % 256 < 26 → number % 256 < 12 → (b : Bool) → reads x (number / 256 % 256) (number / 65536) ≡ b
        → Found x number ⊎ (Found x number → ⊥)
    by_read small few true read =
        at_read x number (number / 65536) (number / 256 % 256) (number % 256) small few (omega arith) read
    by_read small few false silent = inr (λ found.
        let parts = parts_of x number found in
        true≢false (sym found.1.reads ∙ ap (λ l. reads x l found.0.end) parts.1
        ∙ ap (reads x (number / 256 % 256)) parts.0 ∙ silent))

-- so many numbers more
abbrev IsFrom : ℕ → List ℤ → Heard → Type 0
IsFrom number x item = IsHeard x item × (number ≤ standing item)

pub with_more : (x : List ℤ) (number count : ℕ) (items : List Heard) → AreHeardBelow number x items
    → (more : List Heard) × AreHeardBelow (number + count) x (items ++ more)
    × All (λ item. IsHeard x item × (number ≤ standing item)) more
with_more x number zero items are = (
  [],
  subst (λ n. AreHeardBelow n x (items ++ [])) (let e : number ≡ number + 0 = omega arith in e)
      (subst (λ t. AreHeardBelow number x t) (sym (append-nil items)) are),
  All-nil (IsFrom number x),
)
with_more x number (suc count) items are =
    let before = with_more x number count items are in
    let next : number + count + 1 ≡ number + suc count = omega arith in
    elim (item_or_none x (number + count)) [
      | inr none ↦ (
        before.0,
        none_between (number + count) (number + suc count) x (items ++ before.0) (omega arith) before.1
            (λ item h least below. none (item, h, (let e : standing item ≡ number + count = omega arith in e))),
        before.2,
      )
      | inl found ↦
          let at = found.2 in (
            before.0 ++ found.0 ∷ [],
            subst (λ n. AreHeardBelow n x (items ++ (before.0 ++ found.0 ∷ []))) next
                (subst (λ t. AreHeardBelow (number + count + 1) x t) (append_assoc items before.0 (found.0 ∷ []))
                (one_at (number + count) x (items ++ before.0) found.0 before.1 found.1 at)),
            All-append (IsFrom number x) before.0 (found.0 ∷ []) before.2
                (All-cons (IsFrom number x) found.0 [] (found.1, omega arith) (All-nil (IsFrom number x))),
          )
    ]

-- up to the end of the samples
pub with_rest : (x : List ℤ) (end : ℕ) (items : List Heard) → end ≤ length x + 1 → AreHeardBelow (65536 * end) x items
    → (more : List Heard) × AreHeard x (items ++ more) × All (λ item. end ≤ item.end) more
with_rest x end items within are =
    let rest = with_more x (65536 * end) (65536 * (length x + 1) - 65536 * end) items are in
    let last : 65536 * end + (65536 * (length x + 1) - 65536 * end) ≡ 65536 * (length x + 1) = omega arith in (
      rest.0,
      all_below x (items ++ rest.0) (subst (λ n. AreHeardBelow n x (items ++ rest.0)) last rest.1),
      All-weaker (IsFrom (65536 * end) x) (λ item. end ≤ item.end) (λ item from.
          let h = from.0 in
          let least = from.1 in
          let lane = h.lane in
          let tag = tag_below x item h in
          omega arith) rest.0 rest.2,
    )

pub some_list : (x : List ℤ) → (items : List Heard) × AreHeard x items
some_list x = let found = with_rest x 0 [] (omega arith) (none_below x) in (found.0, found.1)
