use Rattle.fx25_blocks.proofs.Common.{[], ◌∷◌, ◌++◌, drop, ap, sym, ◌∙◌, arith, bits_of_64}
use Rattle.fx25_blocks.proofs.RegisterLemmas.{shift_one, shift_zero}
use Rattle.fx25_blocks.proofs.tag_search.shifted.Goals as goal

pub returns-then-bit : goal.returns-then-bit
returns-then-bit c = shift_one c.args.register (omega arith)
    ∙ ap (λ b. drop 1 (bits_of_64 c.args.register) ++ b ∷ []) (sym c.if-bit.true)

pub returns-else-bit : goal.returns-else-bit
returns-else-bit c = shift_zero c.args.register (omega arith)
    ∙ ap (λ b. drop 1 (bits_of_64 c.args.register) ++ b ∷ []) (sym c.if-bit.false)
