use Rattle.channel_access.proofs.Common.{◌≡◌, ◌+◌, ◌++◌, length, drop, replicate, refl, ap, ◌∙◌}
use Rattle.std.specs.Int.{w64, to_le_bytes}
use Rattle.channel_access.specs.Held.{tag_octets}
use Rattle.channel_access.proofs.BlockLemmas.{octets_put}
use Rattle.channel_access.proofs.block_bits.tagged_octets.Goals as goal

pub returns : goal.returns
returns c =
    let tag = tag_octets c.args.tag in
    let is : c.as_slice.result.now ≡ tag = c.as_slice.ensures ∙ c.to_le_bytes.ensures
    ∙ ap (to_le_bytes w64) c.tag_value.ensures in
    octets_put tag c.args.block.now c.put.new.octets c.put-2.new.octets refl c.requires.length
    (c.put.ensures ∙ ap (λ l. l ++ drop (0 + length l) (replicate 263 0)) is) c.put-2.ensures
