use Rattle.hdlc_framer.proofs.Common.{[], ◌∷◌, ◌++◌, ◌∙◌, drop, ap, sym, arith}
use Rattle.hdlc_framer.specs.BitOrder.{octet_bits}
use Rattle.hdlc_framer.proofs.LateLemmas.{later_one, later_zero}
use Rattle.hdlc_framer.proofs.late_deframer.later.Goals as goal

pub returns-then-bit : goal.returns-then-bit
returns-then-bit c = later_one c.args.last (omega arith)
    ∙ ap (λ b. drop 1 (octet_bits c.args.last) ++ b ∷ []) (sym c.if-bit.true)

pub returns-else-bit : goal.returns-else-bit
returns-else-bit c = later_zero c.args.last (omega arith)
    ∙ ap (λ b. drop 1 (octet_bits c.args.last) ++ b ∷ []) (sym c.if-bit.false)
