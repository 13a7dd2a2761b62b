use Rattle.channel_access.proofs.Common.{ap, subst, sym, ◌∙◌, Some}
use Rattle.std.specs.Option.{option_map}
use Rattle.fx25_blocks.specs.Blocks.{bits_needed}
use Rattle.fx25_blocks.specs.Units.{IsTagFor, FitsNoTag}
use Rattle.channel_access.specs.Held.{block_start}
use Rattle.channel_access.proofs.BlockLemmas.{last_tag_of, no_last_tag}
use Rattle.channel_access.proofs.block_bits.BlockBits.new.Goals as goal

pub returns : goal.returns
returns c =
    let octets = c.args.octets.now in
    let found = subst (λ n. IsTagFor n (bits_needed octets) c.in_ok-tag.tag) c.count.ensures
    (subst (λ n. IsTagFor c.count.result n c.in_ok-tag.tag) c.bits_needed.ensures c.in_ok-tag.ensures.tag) in
    ap Some c.of.ensures ∙ ap (option_map (λ tag. block_start tag octets)) (sym (last_tag_of _ _ _ found))

pub returns-in_err-tag : goal.returns-in_err-tag
returns-in_err-tag c =
    let octets = c.args.octets.now in
    let found = subst (λ n. FitsNoTag n (bits_needed octets)) c.count.ensures
    (subst (λ n. FitsNoTag c.count.result n) c.bits_needed.ensures c.in_err-tag.ensures.none) in
    c.from_residual.ensures ∙ ap (option_map (λ tag. block_start tag octets)) (sym (no_last_tag _ _ found))
