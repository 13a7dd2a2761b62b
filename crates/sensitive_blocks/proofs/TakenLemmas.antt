-- What has been taken of what ends with a bit, with one item more or none.
use Rattle.sensitive_blocks.proofs.Common.{◌≡◌, ℕ, ◌+◌, ◌-◌, ◌*◌, ◌<◌, ◌≤◌, ℤ, Bool, true, false, List, [], ◌∷◌, ◌++◌}
use Rattle.sensitive_blocks.proofs.Common.{length, get_or, refl, ap, sym, ◌∙◌, subst, arith, inl, inr, true≢false}
use Rattle.sensitive_blocks.proofs.Common.{Heard, Keeps, merged, EndsUnsureBlock, EndsFrame, EndsInBlock, EndsPlainly, IsHeard}
use Rattle.sensitive_blocks.proofs.Common.{IsTag, IsTold, AreHeardBelow, HasTakenBelow, block_length, ends, lane_bits, reads}
use Rattle.sensitive_blocks.proofs.Common.{lane_certainties}
use Rattle.fx25_receiver.proofs.MergingLemmas.{keeps_on}
use Rattle.sensitive_blocks.proofs.HeardBelow.{below-append, none_between, none_below, one_at}
use Rattle.sensitive_blocks.proofs.OneItem.{tag_below}

-- the number of a rank of an end is not reached by what ends before
module _ (x : List ℤ) (end rank : ℕ) (kept given : List Heard) where
  -- one item more was taken
  pub taken_one : (item : Heard) (now more : List Heard) → (taken : HasTakenBelow end rank kept x given)
      → IsHeard x item → item.end ≡ end → 256 * item.lane + item.tag ≡ rank
      → Keeps now end (taken.heard ++ item ∷ []) → more ≡ merged (taken.heard ++ item ∷ [])
      → HasTakenBelow end (rank + 1) now x more
  taken_one item now more taken here end_is rank_is keeps is = record {
    heard = taken.heard ++ item ∷ [];
    are = subst (λ n. AreHeardBelow n x (taken.heard ++ item ∷ [])) (let e : 65536 * end + rank + 1 ≡ 65536 * end + (rank + 1) = omega arith in e)
        (one_at (65536 * end + rank) x taken.heard item taken.are here (omega arith));
    keeps = keeps;
    given_is = is;
  }

  -- up to a rank nothing more is heard
  pub taken_none : (next : ℕ) → rank ≤ next → HasTakenBelow end rank kept x given
      → ((item : Heard) → IsHeard x item → item.end ≡ end → rank ≤ 256 * item.lane + item.tag
      → 256 * item.lane + item.tag < next → ⊥)
      → next ≤ 65536 → HasTakenBelow end next kept x given
  taken_none next le taken none few = record {
    heard = taken.heard;
    are = none_between (65536 * end + rank) (65536 * end + next) x taken.heard (omega arith) taken.are (λ item h least below.
        let tag = tag_below x item h in
        let lane = h.lane in
        none item h (omega arith) (omega arith) (omega arith));
    keeps = taken.keeps;
    given_is = taken.given_is;
  }

-- after all lanes the next end begins
pub taken_end : (x : List ℤ) (end : ℕ) (kept given : List Heard) → HasTakenBelow end (256 * 26) kept x given
    → HasTakenBelow (end + 1) 0 kept x given
taken_end x end kept given taken = record {
  heard = taken.heard;
  are = none_between (65536 * end + 256 * 26) (65536 * (end + 1) + 0) x taken.heard (omega arith) taken.are
      (λ item h least below.
      let tag = tag_below x item h in
      let lane = h.lane in
      omega arith);
  keeps = keeps_on kept end (end + 1) taken.heard (omega arith) taken.keeps;
  given_is = taken.given_is;
}

-- a lane that reads no bit there
pub taken_silent : (x : List ℤ) (lane end : ℕ) (kept given : List Heard) → lane < 26 → reads x lane end ≡ false
    → HasTakenBelow end (256 * lane) kept x given → HasTakenBelow end (256 * (lane + 1)) kept x given
taken_silent x lane end kept given small not_read taken =
    taken_none x end (256 * lane) kept given (256 * (lane + 1)) (omega arith) taken (λ item h end_is least below.
    let tag = tag_below x item h in
    let same : item.lane ≡ lane = omega arith in
    true≢false (sym h.reads ∙ ap (λ l. reads x l item.end) same ∙ ap (reads x lane) end_is ∙ not_read))
    (omega arith)

-- what ends with the bit of a lane there
module _ (x : List ℤ) (lane end : ℕ) (small : lane < 26) (is_read : reads x lane end ≡ true) (kept given : List Heard) where
  abbrev there : List Bool
  there = lane_bits x lane (end + 1)

  abbrev sure : List ℕ
  sure = lane_certainties x lane (end + 1)

  -- an item of the bit, with its lane and its end named
  bits_of_item : (item : Heard) → item.lane ≡ lane → item.end ≡ end
      → lane_bits x item.lane (item.end + 1) ≡ lane_bits x lane (end + 1)
  bits_of_item item lane_is end_is = ap (λ l. lane_bits x l (item.end + 1)) lane_is ∙ ap (λ e. lane_bits x lane (e + 1)) end_is

  block_of_item : (item : Heard) (over : ℕ) → item.lane ≡ lane → item.end ≡ end
      → EndsUnsureBlock (lane_bits x item.lane (item.end + 1)) (lane_certainties x item.lane (item.end + 1)) item.tag item.octets over
      → EndsUnsureBlock there sure item.tag item.octets over
  block_of_item item over lane_is end_is block =
      subst (λ e. EndsUnsureBlock (lane_bits x lane (e + 1)) (lane_certainties x lane (e + 1)) item.tag item.octets over) end_is
      (subst (λ l. EndsUnsureBlock (lane_bits x l (item.end + 1)) (lane_certainties x l (item.end + 1)) item.tag item.octets over)
      lane_is block)

  -- no frame that is told ends plainly
  pub taken_no_plain : ((octets : List ℕ) → EndsFrame there octets → IsTold x lane end octets → ⊥)
      → HasTakenBelow end (256 * lane) kept x given → HasTakenBelow end (256 * lane + 1) kept x given
  taken_no_plain none taken =
      taken_none x end (256 * lane) kept given (256 * lane + 1) (omega arith) taken (λ item h end_is least below.
      let tag = tag_below x item h in
      let lane_is : item.lane ≡ lane = omega arith in
      let zero_tag : item.tag ≡ 0 = omega arith in
      elim h.ends [
        | inl plain ↦ none item.octets
            (subst (λ b. EndsFrame b item.octets) (bits_of_item item lane_is end_is) plain.frame)
            (subst (λ e. IsTold x lane e item.octets) end_is (subst (λ l. IsTold x l item.end item.octets) lane_is plain.told))
        | inr block ↦ let least = block.block.is_tag.0 in absurd (omega arith)
      ])
      (omega arith)

  -- one does
  pub taken_plain : (octets : List ℕ) (now more : List Heard) → EndsFrame there octets → IsTold x lane end octets
      → (taken : HasTakenBelow end (256 * lane) kept x given)
      → Keeps now end (taken.heard ++ record { end = end; lane = lane; tag = 0; octets = octets; at = end } ∷ [])
      → more ≡ merged (taken.heard ++ record { end = end; lane = lane; tag = 0; octets = octets; at = end } ∷ [])
      → HasTakenBelow end (256 * lane + 1) now x more
  taken_plain octets now more frame told taken keeps is =
      let item : Heard = record { end = end; lane = lane; tag = 0; octets = octets; at = end } in
      let plain : EndsPlainly x item = record { tag = refl; at = refl; frame = frame; told = told } in
      let here : IsHeard x item = record { lane = small; reads = is_read; ends = inl plain } in
      taken_one x end (256 * lane) kept given item now more taken here refl (omega arith) keeps is

  -- no frame ends in a block of a tag
  pub taken_no_block : (tag : ℕ) → IsTag tag → ((frame : List ℕ) → (over : ℕ) → EndsUnsureBlock there sure tag frame over → ⊥)
      → HasTakenBelow end (256 * lane + tag) kept x given → HasTakenBelow end (256 * lane + (tag + 1)) kept x given
  taken_no_block tag is_tag none taken =
      taken_none x end (256 * lane + tag) kept given (256 * lane + (tag + 1)) (omega arith) taken (λ item h end_is least below.
      let tag_small = tag_below x item h in
      let most = is_tag.1 in
      let first = is_tag.0 in
      let lane_is : item.lane ≡ lane = omega arith in
      let tag_is : item.tag ≡ tag = omega arith in
      elim h.ends [
        | inl plain ↦ let zero_of = plain.tag in absurd (omega arith)
        | inr block ↦ none item.octets block.over
            (subst (λ t. EndsUnsureBlock there sure t item.octets block.over) tag_is
            (block_of_item item block.over lane_is end_is block.block))
      ])
      (let most = is_tag.1 in omega arith)

  -- one does
  pub taken_block : (tag : ℕ) (octets : List ℕ) (over index at : ℕ) (now more : List Heard)
      → EndsUnsureBlock there sure tag octets over
      → index + 1 + 8 * block_length tag ≡ length there + over → at ≡ get_or (ends x lane (end + 1)) index 0
      → (taken : HasTakenBelow end (256 * lane + tag) kept x given)
      → Keeps now end (taken.heard ++ record { end = end; lane = lane; tag = tag; octets = octets; at = at } ∷ [])
      → more ≡ merged (taken.heard ++ record { end = end; lane = lane; tag = tag; octets = octets; at = at } ∷ [])
      → HasTakenBelow end (256 * lane + (tag + 1)) now x more
  taken_block tag octets over index at now more block index_is at_is taken keeps is =
      let item : Heard = record { end = end; lane = lane; tag = tag; octets = octets; at = at } in
      let in_block : EndsInBlock x item = record {
        over = over;
        block = block;
        index = index;
        index_is = index_is;
        at = at_is;
      } in
      let here : IsHeard x item = record { lane = small; reads = is_read; ends = inr in_block } in
      subst (λ n. HasTakenBelow end n now x more) (let e : 256 * lane + tag + 1 ≡ 256 * lane + (tag + 1) = omega arith in e)
      (taken_one x end (256 * lane + tag) kept given item now more taken here refl refl keeps is)

  -- after all tags the next lane begins
  pub taken_tags : (tag : ℕ) → 12 ≤ tag → tag ≤ 256 → HasTakenBelow end (256 * lane + tag) kept x given
      → HasTakenBelow end (256 * (lane + 1)) kept x given
  taken_tags tag enough few taken =
      taken_none x end (256 * lane + tag) kept given (256 * (lane + 1)) (omega arith) taken (λ item h end_is least below.
      let tag_small = tag_below x item h in
      omega arith)
      (omega arith)

  -- if no block ends there, no tag adds an item
  pub taken_idle : ((tag : ℕ) → (frame : List ℕ) → (over : ℕ) → ¬ EndsUnsureBlock there sure tag frame over)
      → HasTakenBelow end (256 * lane + 1) kept x given → HasTakenBelow end (256 * (lane + 1)) kept x given
  taken_idle idle taken =
      taken_none x end (256 * lane + 1) kept given (256 * (lane + 1)) (omega arith) taken (λ item h end_is least below.
      let tag_small = tag_below x item h in
      let lane_is : item.lane ≡ lane = omega arith in
      elim h.ends [
        | inl plain ↦ let zero_of = plain.tag in absurd (omega arith)
        | inr block ↦ idle item.tag item.octets block.over (block_of_item item block.over lane_is end_is block.block)
      ])
      (omega arith)

-- ---- what was taken, with more samples

pub taken-append : (x y : List ℤ) (end : ℕ) (kept given : List Heard) → end ≤ length x - 32
    → HasTakenBelow end 0 kept x given → HasTakenBelow end 0 kept (x ++ y) given
taken-append x y end kept given inside taken =
    let no_rank : 65536 * end + 0 ≡ 65536 * end = omega arith in
    record {
      heard = taken.heard;
      are = subst (λ n. AreHeardBelow n (x ++ y) taken.heard) (sym no_rank)
          (below-append x y end taken.heard inside (subst (λ n. AreHeardBelow n x taken.heard) no_rank taken.are));
      keeps = taken.keeps;
      given_is = taken.given_is;
    }

pub taken_start : (x : List ℤ) (kept : List Heard) → kept ≡ [] → HasTakenBelow 0 0 kept x []
taken_start x kept none = record {
  heard = [];
  are = none_below x;
  keeps = record { least = 0; below = omega arith; kept_is = none };
  given_is = refl;
}
