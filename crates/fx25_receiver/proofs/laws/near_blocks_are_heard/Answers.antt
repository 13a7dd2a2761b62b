use Rattle.fx25_receiver.proofs.Common.{inr, subst, sym, EndsBlock}
use Rattle.fx25_blocks.specs.Blocks.{bits_needed}
use Rattle.fx25_blocks.proofs.BlockLaws.{heard_block}
use Rattle.fx25_receiver.proofs.OneItem.{one_item}
use Rattle.fx25_receiver.proofs.TakenLemmas.{heard_as_it_came}
use Rattle.fx25_receiver.proofs.laws.near_blocks_are_heard.Goals as goal

pub returns-clause-heard : goal.returns-clause-heard
returns-clause-heard c = λ x item index before heard word block lane within is is_tag is_frame block_of near octets size
    wrong end at.
    heard_as_it_came x item index lane within end (inr (
      bits_needed item.octets,
      subst (λ b. EndsBlock b item.tag item.octets (bits_needed item.octets)) (sym is)
          (heard_block before heard word item.tag item.octets block is_tag is_frame block_of near octets size wrong),
      at,
    ))

pub returns-clause-only : goal.returns-clause-only
returns-clause-only c = one_item
