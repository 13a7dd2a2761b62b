-- With a bit of a lane, at most one item of each tag ends; and what bounds an item.
use Rattle.sensitive_blocks.proofs.Common.{◌≡◌, ◌+◌, ◌<◌, ◌≤◌, ℤ, Bool, List, length, ap, sym, ◌∙◌, subst, arith, inl, inr}
use Rattle.sensitive_blocks.proofs.Common.{◌⊎◌, get_or, Heard, EndsUnsureBlock, EndsInBlock, EndsPlainly, IsHeard, block_length, ends, lane_bits, standing}
use Rattle.sensitive_blocks.proofs.Common.{lane_certainties}
use Rattle.hdlc_framer.proofs.FrameEnds.{one_frame}
use Rattle.fx25_blocks.proofs.UnsureLaws.{one_unsure}
use Rattle.fx25_receiver.proofs.TakenLemmas.{same_item}
use Rattle.sensitive_blocks.proofs.BitLemmas.{read_within}

-- a tag is at most 11
pub tag_below : (x : List ℤ) (item : Heard) → IsHeard x item → item.tag < 12
tag_below x item h = elim h.ends [
  | inl plain ↦ let none = plain.tag in omega arith
  | inr block ↦ let most = block.block.is_tag.1 in omega arith
]

-- an item ends within the samples
pub end_within : (x : List ℤ) (item : Heard) → IsHeard x item → item.end ≤ length x
end_within x item h = read_within x item.lane item.end h.lane h.reads

pub one_item : (x : List ℤ) (item other : Heard) → IsHeard x item → IsHeard x other → other.end ≡ item.end
    → other.lane ≡ item.lane → other.tag ≡ item.tag → item ≡ other
one_item x item other first second end lane tag = go first.ends second.ends
  where
    here : List Bool
    here = lane_bits x item.lane (item.end + 1)

    there : lane_bits x other.lane (other.end + 1) ≡ lane_bits x item.lane (item.end + 1)
    there = ap (λ l. lane_bits x l (other.end + 1)) lane ∙ ap (λ e. lane_bits x item.lane (e + 1)) end

    as_sure : lane_certainties x other.lane (other.end + 1) ≡ lane_certainties x item.lane (item.end + 1)
    as_sure = ap (λ l. lane_certainties x l (other.end + 1)) lane ∙ ap (λ e. lane_certainties x item.lane (e + 1)) end

    go : EndsPlainly x item ⊎ EndsInBlock x item → EndsPlainly x other ⊎ EndsInBlock x other → item ≡ other
    go (inl plain) (inl also) =
        same_item item other (sym end) (sym lane) (sym tag)
        (one_frame (lane_bits x item.lane (item.end + 1)) item.octets other.octets plain.frame
        (subst (λ b. Rattle.hdlc_framer.specs.Frames.EndsFrame b other.octets) there also.frame)).0
        (plain.at ∙ sym end ∙ sym also.at)
    go (inl plain) (inr block) = let none = plain.tag in let least = block.block.is_tag.0 in absurd (omega arith)
    go (inr block) (inl plain) = let none = plain.tag in let least = block.block.is_tag.0 in absurd (omega arith)
    go (inr block) (inr also) =
        let bits = lane_bits x item.lane (item.end + 1) in
        let numbers = lane_certainties x item.lane (item.end + 1) in
        let at_bits : EndsUnsureBlock bits (lane_certainties x other.lane (other.end + 1)) other.tag other.octets also.over =
        subst (λ b. EndsUnsureBlock b (lane_certainties x other.lane (other.end + 1)) other.tag other.octets also.over) there
        also.block in
        let at_numbers : EndsUnsureBlock bits numbers other.tag other.octets also.over =
        subst (λ n. EndsUnsureBlock bits n other.tag other.octets also.over) as_sure at_bits in
        let at_tag : EndsUnsureBlock bits numbers item.tag other.octets also.over =
        subst (λ t. EndsUnsureBlock bits numbers t other.octets also.over) tag at_numbers in
        let one = one_unsure bits numbers item.tag item.octets other.octets block.over also.over block.block at_tag in
        let lengths : block_length other.tag ≡ block_length item.tag = ap block_length tag in
        let sizes : length (lane_bits x other.lane (other.end + 1)) ≡ length (lane_bits x item.lane (item.end + 1)) =
        ap length there in
        let over_same = one.1 in
        let index_is = block.index_is in
        let also_is = also.index_is in
        let index : block.index ≡ also.index = omega arith in
        let ends_same : ends x other.lane (other.end + 1) ≡ ends x item.lane (item.end + 1) =
        ap (λ l. ends x l (other.end + 1)) lane ∙ ap (λ e. ends x item.lane (e + 1)) end in
        let at : item.at ≡ other.at = block.at ∙ ap (λ k. get_or (ends x item.lane (item.end + 1)) k 0) index
        ∙ ap (λ t. get_or t also.index 0) (sym ends_same) ∙ sym also.at in
        same_item item other (sym end) (sym lane) (sym tag) one.0 at

-- where items stand tells which they are
pub one_standing : (x : List ℤ) (item other : Heard) → IsHeard x item → IsHeard x other → standing other ≡ standing item
    → item ≡ other
one_standing x item other first second same =
    let lane = first.lane in
    let lane_of = second.lane in
    let tag = tag_below x item first in
    let tag_of = tag_below x other second in
    one_item x item other first second (omega arith) (omega arith) (omega arith)
