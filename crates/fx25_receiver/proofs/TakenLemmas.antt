-- What has been taken of what ends with a bit, with one item more.
use Rattle.fx25_receiver.proofs.Common.{◌≡◌, ℕ, zero, suc, ◌+◌, ◌*◌, ◌<◌, ◌≤◌, ℤ, Bool, List, [], ◌∷◌, ◌++◌, length}
use Rattle.fx25_receiver.proofs.Common.{take}
use Rattle.fx25_receiver.proofs.Common.{ap, sym, ◌∙◌, subst, refl, arith, inl, inr, length-append, length_push, bits}
use Rattle.fx25_receiver.proofs.Common.{certainties, length-bits, sent_bits, EndsBlock, EndsFrame, EndsLast, EndsUnsureBlock}
use Rattle.fx25_receiver.proofs.Common.{◌⊎◌, EndsPlainly, EndsWithBits, HasHeard, IsHeard}
use Rattle.fx25_receiver.proofs.Common.{HasTakenBelow, Heard, IsAt, Keeps, Place, block_length, data_count}
use Rattle.fx25_receiver.proofs.Common.{merged}
use Rattle.fx25_receiver.proofs.HeardLemmas.{heard_early, heard_finish, heard_no_more, heard_start, none_there, one_there}
use Rattle.fx25_receiver.proofs.MergingLemmas.{keeps_on}
use Rattle.hdlc_framer.proofs.BitLemmas.{length-sent_bits}
use Rattle.hdlc_framer.proofs.FrameEnds.{one_frame}
use Rattle.hdlc_framer.specs.Body.{flags}
use Rattle.hdlc_framer.specs.Frames.{frame_bits}
use Rattle.hdlc_framer.specs.Stuffing.{flag}
use Rattle.fx25_blocks.proofs.UnsureLaws.{near_unsure, one_unsure}
use Rattle.fx25_receiver.proofs.CertaintyLemmas.{length-certainties}
use Rattle.fx25_blocks.specs.BlockEnds.{OpensWithFrame}
use Rattle.std.proofs.lemmas.List.{length-take}

length-flags : (count : ℕ) → length (flags count) ≡ 8 * count
length-flags zero = refl
length-flags (suc count) = omega (arith, length-append flag (flags count), length-flags count)

-- a frame is over within the octets that it opens
over_within : (octets : List ℕ) (frame : List ℕ) (over : ℕ) → OpensWithFrame (sent_bits octets) frame over
    → over ≤ 8 * length octets
over_within octets frame over o = omega (
  arith,
  o.over_is,
  ap length o.bits_are,
  length-append (flags o.flags_before) (flag ++ (frame_bits frame ++ (flag ++ o.rest))),
  length-append flag (frame_bits frame ++ (flag ++ o.rest)),
  length-append (frame_bits frame) (flag ++ o.rest),
  length-append flag o.rest,
  length-flags o.flags_before,
  length-sent_bits octets,
)

-- a tag and its block are as many bits as they are
tag_and_block_size : (bits before heard block : List Bool) (tag : ℕ) → bits ≡ before ++ (heard ++ block)
    → length heard ≡ 64 → length block ≡ 8 * block_length tag → 64 + 8 * block_length tag ≤ length bits
tag_and_block_size bits before heard block tag are tag_size size = omega (
  arith,
  ap length are,
  length-append before (heard ++ block),
  length-append heard block,
  tag_size,
  size,
)

-- and the frame is over within the data
pub block_bounds : (bits : List Bool) (tag : ℕ) (frame : List ℕ) (over : ℕ) → EndsBlock bits tag frame over
    → (64 + 8 * block_length tag ≤ length bits) × (over ≤ 8 * block_length tag)
block_bounds bits tag frame over ends =
    let c = ends.carries in
    let octets = take (data_count tag) c.codeword in (
      tag_and_block_size bits ends.before ends.heard ends.block tag ends.bits_are ends.near_tag.size
          (ap length c.bits_are ∙ length-sent_bits c.word ∙ ap (λ n. 8 * n) c.size),
      omega (arith, over_within octets frame over c.opens, length-take (data_count tag) c.codeword),
    )

pub unsure_block_bounds : (bits : List Bool) (numbers : List ℕ) (tag : ℕ) (frame : List ℕ) (over : ℕ)
    → EndsUnsureBlock bits numbers tag frame over
    → (64 + 8 * block_length tag ≤ length bits) × (over ≤ 8 * block_length tag)
unsure_block_bounds bits numbers tag frame over ends =
    let c = ends.reads.carries in
    let octets = take (data_count tag) c.codeword in (
      tag_and_block_size bits ends.before ends.heard (sent_bits ends.word) tag ends.bits_are ends.near_tag.size
          (length-sent_bits ends.word ∙ ap (λ n. 8 * n) ends.size),
      omega (arith, over_within octets frame over c.opens, length-take (data_count tag) c.codeword),
    )

pub same_item : (item other : Heard) → item.end ≡ other.end → item.lane ≡ other.lane → item.tag ≡ other.tag
    → item.octets ≡ other.octets → item.at ≡ other.at → item ≡ other
same_item item other end lane tag octets at =
    ap (λ v. record item { end = v }) end
    ∙ ap (λ v. record item { end = other.end; lane = v }) lane
    ∙ ap (λ v. record item { end = other.end; lane = other.lane; tag = v }) tag
    ∙ ap (λ v. record other { octets = v; at = item.at }) octets
    ∙ ap (λ v. record other { at = v }) at

module _ (place : Place) (x : List ℤ) (at : IsAt place x) where
  -- one item more was taken
  pub taken_one : (item : Heard) (kept now : List Heard) (given more : List Heard)
      → (taken : HasTakenBelow item.tag kept x given) → item.lane ≡ place.offset → item.end ≡ place.end
      → EndsLast place.offset x item
      → ((other : Heard) → other.lane ≡ item.lane → other.end ≡ item.end → other.tag ≡ item.tag
      → EndsLast place.offset x other → item ≡ other)
      → Keeps now (length x) (taken.heard ++ item ∷ []) → more ≡ merged (taken.heard ++ item ∷ [])
      → HasTakenBelow (item.tag + 1) now x more
  taken_one item kept now given more taken lane end ends only keeps is = record {
    heard = taken.heard ++ item ∷ [];
    are = one_there place x at taken.heard item taken.are lane end ends only;
    keeps = keeps;
    given_is = is;
  }

  pub taken_none : (tag : ℕ) (kept given : List Heard) → HasTakenBelow tag kept x given
      → ((item : Heard) → EndsLast place.offset x item → item.tag ≡ tag → ⊥)
      → HasTakenBelow (tag + 1) kept x given
  taken_none tag kept given taken none = record {
    heard = taken.heard;
    are = none_there place x at tag taken.heard taken.are none;
    keeps = taken.keeps;
    given_is = taken.given_is;
  }

  -- if no block ends there, no tag adds an item
  pub taken_idle : (kept given : List Heard)
      → ((tag : ℕ) → (frame : List ℕ) → (over : ℕ)
      → ¬ EndsUnsureBlock (bits place.offset x) (certainties place.offset x) tag frame over)
      → HasTakenBelow 1 kept x given → HasTakenBelow 12 kept x given
  taken_idle kept given idle taken = up_to 11
    where
      up_to : (count : ℕ) → HasTakenBelow (count + 1) kept x given
      up_to zero = taken
      up_to (suc count) =
          let next : count + 1 + 1 ≡ suc count + 1 = omega arith in
          subst (λ n. HasTakenBelow n kept x given) next
          (taken_none (count + 1) kept given (up_to count) (λ item ends same. elim ends [
            | inl plain ↦ let none = plain.0 in absurd (omega arith)
            | inr block ↦ idle item.tag item.octets block.0 block.1
          ]))

  -- no other frame came plainly
  pub only_plain : (item : Heard) → item.tag ≡ 0 → item.at ≡ item.end → EndsFrame (bits place.offset x) item.octets
      → (other : Heard) → other.lane ≡ item.lane → other.end ≡ item.end → other.tag ≡ item.tag
      → EndsLast place.offset x other → item ≡ other
  only_plain item tag at_end ends other lane end same (inl plain) =
      same_item item other (sym end) (sym lane) (sym same)
      (one_frame (bits place.offset x) item.octets other.octets ends plain.2).0
      (at_end ∙ sym end ∙ sym plain.1)
  only_plain item tag at_end ends other lane end same (inr block) =
      let is_tag = block.1.is_tag.0 in absurd (omega arith)

  -- no other frame came in a block of a tag
  pub only_in_block : (item : Heard) (over : ℕ)
      → EndsUnsureBlock (bits place.offset x) (certainties place.offset x) item.tag item.octets over
      → item.at + 8 * (8 * block_length item.tag) ≡ item.end + 8 * over
      → (other : Heard) → other.lane ≡ item.lane → other.end ≡ item.end → other.tag ≡ item.tag
      → EndsLast place.offset x other → item ≡ other
  only_in_block item over ends at_end other lane end same (inl plain) =
      let is_tag = ends.is_tag.0 in let none = plain.0 in absurd (omega arith)
  only_in_block item over ends at_end other lane end same (inr block) =
      let there : EndsUnsureBlock (bits place.offset x) (certainties place.offset x) item.tag other.octets block.0 =
      subst (λ tag. EndsUnsureBlock (bits place.offset x) (certainties place.offset x) tag other.octets block.0) same
      block.1 in
      let one = one_unsure (bits place.offset x) (certainties place.offset x) item.tag item.octets other.octets over block.0
      ends there in
      let lengths : block_length other.tag ≡ block_length item.tag = ap block_length same in
      let over_same = one.1 in
      let at_other = block.2 in
      same_item item other (sym end) (sym lane) (sym same) one.0 (omega arith)

-- an item that ends with bits plainly, or in a block that is near enough to a codeword as it came
abbrev pub EndsAsItCame : List Bool → Heard → Type 0
EndsAsItCame bits item = EndsPlainly bits item ⊎ ((over : ℕ) × EndsBlock bits item.tag item.octets over
    × (item.at + 8 * (8 * block_length item.tag) ≡ item.end + 8 * over))

ends_too : (bits : List Bool) (numbers : List ℕ) (item : Heard) → length numbers ≡ length bits
    → EndsAsItCame bits item → EndsWithBits bits numbers item
ends_too bits numbers item size (inl plain) = inl plain
ends_too bits numbers item size (inr (over, ends, placed)) =
    let bounds = block_bounds bits item.tag item.octets over ends in
    let least = bounds.0 in
    inr (over, near_unsure bits numbers item.tag item.octets over (omega arith) ends, placed)

-- is heard
pub heard_as_it_came : (x : List ℤ) (item : Heard) (index : ℕ) → item.lane < 8 → index < length (bits item.lane x)
    → item.end ≡ item.lane + 8 * (index + 1) → EndsAsItCame (take (index + 1) (bits item.lane x)) item → IsHeard x item
heard_as_it_came x item index lane within end ends =
    let there : List Bool = take (index + 1) (bits item.lane x) in
    let numbers : List ℕ = take (index + 1) (certainties item.lane x) in
    let size : length numbers ≡ length there = omega (
      arith,
      length-take (index + 1) (bits item.lane x),
      length-take (index + 1) (certainties item.lane x),
      length-bits item.lane x,
      length-certainties item.lane x,
    ) in
    record {
      lane = lane;
      index = index;
      ends = record { within = within; end_of = end; ends = ends_too there numbers item size ends };
    }

-- a bit at which nothing can end, and one at which all that could was taken
pub taken_start : (kept given : List Heard) (x : List ℤ) (sample : ℤ) → HasHeard kept x given
    → HasTakenBelow 0 kept (x ++ sample ∷ []) given
taken_start kept given x sample h = record {
  heard = h.heard;
  are = heard_start x sample h.heard h.are;
  keeps = keeps_on kept (length x) (length (x ++ sample ∷ [])) h.heard (omega (arith, length_push x sample)) h.keeps;
  given_is = h.given_is;
}

pub taken_all : (kept given : List Heard) (x : List ℤ) → HasTakenBelow 12 kept x given → HasHeard kept x given
taken_all kept given x taken = record {
  heard = taken.heard;
  are = heard_finish x taken.heard taken.are;
  keeps = taken.keeps;
  given_is = taken.given_is;
}

pub taken_early : (kept given : List Heard) (x : List ℤ) (sample : ℤ) → length x + 1 < 8 → HasHeard kept x given
    → HasHeard kept (x ++ sample ∷ []) given
taken_early kept given x sample few h =
    let start = taken_start kept given x sample h in
    record {
      heard = start.heard;
      are = heard_early (x ++ sample ∷ []) 0 start.heard (omega (arith, length_push x sample)) start.are;
      keeps = start.keeps;
      given_is = start.given_is;
    }

-- more samples of which nothing is heard
pub taken_no_more : (kept given : List Heard) (x y : List ℤ) → HasHeard kept x given
    → ((item : Heard) → IsHeard (x ++ y) item → length x < item.end → ⊥) → HasHeard kept (x ++ y) given
taken_no_more kept given x y h none = record {
  heard = h.heard;
  are = heard_no_more x y h.heard h.are none;
  keeps = keeps_on kept (length x) (length (x ++ y)) h.heard (omega (arith, length-append x y)) h.keeps;
  given_is = h.given_is;
}
