use Rattle.fx25_receiver.proofs.Common.{inr, subst, sym, arith, EndsBlock}
use Rattle.fx25_blocks.specs.Blocks.{bits_needed}
use Rattle.fx25_blocks.proofs.BlockLaws.{heard_block}
use Rattle.fx25_receiver.proofs.DamageLemmas.{as_many, bits_are, few_wrong, word}
use Rattle.fx25_receiver.proofs.TakenLemmas.{heard_as_it_came}
use Rattle.fx25_receiver.proofs.laws.one_stretch_of_samples_is_repaired.Goals as goal

pub returns : goal.returns
returns c = λ x sent item index start count before heard block lane within is is_tag is_frame block_of near differ following few
    end at.
    let found = word start count x sent differ item.lane index item.tag before heard block is_tag within is near.size
    block_of.size block_of.octets following few in
    let bits = bits_are start count x sent differ item.lane index item.tag before heard block is_tag within is near.size
    block_of.size block_of.octets following few in
    let wrong = few_wrong start count x sent differ item.lane index item.tag before heard block is_tag within is near.size
    block_of.size block_of.octets following few in
    let count_same = as_many start count x sent differ item.lane index item.tag before heard block is_tag within is near.size
    block_of.size block_of.octets following few in
    heard_as_it_came x item index lane (omega (arith, count_same)) end (inr (
      bits_needed item.octets,
      subst (λ b. EndsBlock b item.tag item.octets (bits_needed item.octets)) (sym bits)
          (heard_block before heard found.0 item.tag item.octets block is_tag is_frame block_of near found.2 found.1 wrong),
      at,
    ))
