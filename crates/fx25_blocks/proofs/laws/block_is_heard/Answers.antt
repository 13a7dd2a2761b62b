use Rattle.fx25_blocks.proofs.Common.{◌++◌, sent_bits, bits_needed}
use Rattle.fx25_blocks.proofs.BlockLaws.{heard_block, one_block}
use Rattle.fx25_blocks.proofs.laws.block_is_heard.Goals as goal

pub returns : goal.returns
returns c = λ before heard word tag frame block is_tag is_frame block_of near octets size wrong.
    let ends = heard_block before heard word tag frame block is_tag is_frame block_of near octets size wrong in (
      ends,
      λ other over other_ends. one_block (before ++ (heard ++ sent_bits word)) tag other frame over (bits_needed frame)
          other_ends ends,
    )
