use Rattle.channel_access.proofs.Common.{◌≡◌, ◌≤◌, ◌+◌, ◌*◌, leb, length, arith, ap, sym, ◌∙◌}
use Rattle.std.proofs.Common.{rules}
use Rattle.channel_access.proofs.BlockLemmas.{length-block_bits}
use Rattle.channel_access.proofs.block_bits.BlockBits.is_over.Goals as goal

pub returns : goal.returns
returns c =
    let size : length c.args.self.octets ≡ 263 = search rules in
    let most : c.args.self.length ≤ 255 = omega arith in
    ap (λ n. leb (8 * (8 + n)) c.args.self.place) c.from.ensures
    ∙ ap (λ n. leb n c.args.self.place) (sym (length-block_bits c.args.self size most))
