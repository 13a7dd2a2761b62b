use Rattle.channel_access.proofs.Common.{◌≡◌, ◌-◌, ◌*◌, ◌++◌, take, length, replicate, ap, subst, ◌∙◌}
use Rattle.fx25_blocks.specs.Blocks.{data_bits}
use Rattle.fx25_blocks.specs.Tags.{block_length, data_count}
use Rattle.fx25_blocks.specs.Written.{Carries}
use Rattle.fx25_sender.specs.Units.{block_octets}
use Rattle.channel_access.specs.Held.{block_start, tag_octets, unit_octets}
use Rattle.channel_access.proofs.BlockLemmas.{data_of_line, made_block}
use Rattle.channel_access.proofs.block_bits.BlockBits.of.Goals as goal

pub returns : goal.returns
unfolding unit_octets
returns c =
    let tag = c.args.tag in
    let octets = c.args.octets.now in
    let found = c.requires.tag in
    let block = c.block_of-block.result.items in
    let line : take (8 * c.data_count.result) c.data_line-line.result ≡ data_bits tag octets =
    ap (λ n. take (8 * n) c.data_line-line.result) c.data_count.ensures.value
    ∙ ap (take (8 * data_count tag)) c.data_line-line.ensures ∙ data_of_line found.0 tag octets found.1 in
    let is : block ≡ block_octets tag octets =
    made_block found.0 tag octets block found.1 (subst (λ l. Carries tag l block) line c.block_of-block.ensures) in
    let all = c.tagged_octets.ensures
    ∙ ap (λ b. (tag_octets tag ++ b) ++ replicate (263 - length (tag_octets tag ++ b)) 0) (c.as_slice.ensures.value ∙ is) in
    let size : c.len.result ≡ block_length tag = c.len.ensures.value ∙ c.block_of-block.ensures.size in
    ap (λ o. record { octets = o; length = c.len.result; place = 0 }) all
    ∙ ap (λ n. record { octets = (block_start tag octets).octets; length = n; place = 0 }) size
