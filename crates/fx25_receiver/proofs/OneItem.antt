-- With a bit of a lane, at most one item of each tag ends.
use Rattle.fx25_receiver.proofs.Common.{◌+◌, ℤ, Bool, List, take, ap, sym, ◌∙◌, subst, arith, inl}
use Rattle.fx25_receiver.proofs.Common.{inr}
use Rattle.fx25_receiver.proofs.Common.{◌≡◌, ℕ, bits, certainties, EndsUnsureBlock, EndsWithBits, Heard, IsHeard}
use Rattle.fx25_receiver.proofs.Common.{block_length}
use Rattle.hdlc_framer.proofs.FrameEnds.{one_frame}
use Rattle.fx25_blocks.proofs.UnsureLaws.{one_unsure}
use Rattle.fx25_receiver.proofs.HeardLemmas.{ends_alike}
use Rattle.fx25_receiver.proofs.TakenLemmas.{same_item}

pub one_end : (there : List Bool) (numbers : List ℕ) (item other : Heard) → other.end ≡ item.end
    → other.lane ≡ item.lane → other.tag ≡ item.tag
    → EndsWithBits there numbers item → EndsWithBits there numbers other → item ≡ other
one_end there numbers item other end lane tag (inl plain) (inl also) =
    same_item item other (sym end) (sym lane) (sym tag)
    (one_frame there item.octets other.octets plain.2 also.2).0
    (plain.1 ∙ sym end ∙ sym also.1)
one_end there numbers item other end lane tag (inl plain) (inr block) =
    let none = plain.0 in let least = block.1.is_tag.0 in absurd (omega arith)
one_end there numbers item other end lane tag (inr block) (inl plain) =
    let none = plain.0 in let least = block.1.is_tag.0 in absurd (omega arith)
one_end there numbers item other end lane tag (inr block) (inr also) =
    let here : EndsUnsureBlock there numbers item.tag other.octets also.0 =
    subst (λ t. EndsUnsureBlock there numbers t other.octets also.0) tag also.1 in
    let one = one_unsure there numbers item.tag item.octets other.octets block.0 also.0 block.1 here in
    let lengths : block_length other.tag ≡ block_length item.tag = ap block_length tag in
    let over_same = one.1 in
    let at = block.2 in
    let at_other = also.2 in
    same_item item other (sym end) (sym lane) (sym tag) one.0 (omega arith)

pub one_item : (x : List ℤ) (item other : Heard) → IsHeard x item → IsHeard x other → other.end ≡ item.end
    → other.lane ≡ item.lane → other.tag ≡ item.tag → item ≡ other
one_item x item other first second end lane tag =
    let a = first.ends.end_of in
    let b = second.ends.end_of in
    let index : second.index ≡ first.index = omega arith in
    let same : take (second.index + 1) (bits other.lane x) ≡ take (first.index + 1) (bits item.lane x) =
    ap (λ l. take (second.index + 1) (bits l x)) lane ∙ ap (λ n. take (n + 1) (bits item.lane x)) index in
    let as_sure : take (second.index + 1) (certainties other.lane x) ≡ take (first.index + 1) (certainties item.lane x) =
    ap (λ l. take (second.index + 1) (certainties l x)) lane
    ∙ ap (λ n. take (n + 1) (certainties item.lane x)) index in
    one_end (take (first.index + 1) (bits item.lane x)) (take (first.index + 1) (certainties item.lane x)) item other end
    lane tag first.ends.ends (ends_alike _ _ _ _ other same as_sure second.ends.ends)
