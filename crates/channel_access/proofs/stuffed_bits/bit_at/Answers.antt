use Rattle.channel_access.proofs.Common.{sym, ap, ◌∙◌, eqb, bit_and, ◌/◌, ◌%◌, ◌^◌, checked}
use Rattle.std.specs.List.{slice_index}
use Rattle.channel_access.proofs.FrameLemmas.{bits_in-at}
use Rattle.channel_access.proofs.stuffed_bits.bit_at.Goals as goal

pub returns : goal.returns
returns c =
    ap (λ octet. eqb (bit_and (octet / 2 ^ (c.args.place % 8)) 1) 1) c.octet_at-octet.ensures
    ∙ ap (λ i. eqb (bit_and (slice_index (checked c.args.octets.now c.args.check) i / 2 ^
    (c.args.place % 8)) 1) 1) c.from.ensures
    ∙ sym (bits_in-at c.args.octets.now c.args.check c.args.place c.requires)
