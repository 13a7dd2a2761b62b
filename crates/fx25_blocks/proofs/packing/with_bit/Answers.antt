use Rattle.hdlc_framer.proofs.Common.{◌∙◌, ap, sym, ◌++◌, ◌∷◌, [], low_bits}
use Rattle.hdlc_framer.proofs.BitLemmas.{low_bits-with_zero, low_bits-with_one, with_one-lt}
use Rattle.fx25_blocks.proofs.packing.with_bit.Goals as goal

pub returns-then-bit-clause-bits : goal.returns-then-bit-clause-bits
returns-then-bit-clause-bits c =
    low_bits-with_one c.args.filled c.args.part c.requires.room c.requires.part
    ∙ ap (λ b. low_bits c.args.filled c.args.part ++ b ∷ []) (sym c.if-bit.true)

pub returns-then-bit-clause-below : goal.returns-then-bit-clause-below
returns-then-bit-clause-below c = with_one-lt c.args.filled c.args.part c.requires.room c.requires.part

pub returns-else-bit-clause-bits : goal.returns-else-bit-clause-bits
returns-else-bit-clause-bits c =
    low_bits-with_zero c.args.filled c.args.part c.requires.part
    ∙ ap (λ b. low_bits c.args.filled c.args.part ++ b ∷ []) (sym c.if-bit.false)
