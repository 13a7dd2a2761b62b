use Rattle.hdlc_framer.proofs.Common.{◌++◌}
use Rattle.hdlc_framer.proofs.LateLemmas.{all_bits}
use Rattle.hdlc_framer.specs.Held.{StandsFor}
use Rattle.hdlc_framer.proofs.Common.{ap, subst}
use Rattle.hdlc_framer.proofs.late_deframer.push_whole_octet.Goals as goal

pub returns-then-not-push_octet : goal.returns-then-not-push_octet
returns-then-not-push_octet c = λ b s.
    subst (StandsFor c.push_bits.new.deframer) (ap (λ xs. b ++ xs) (all_bits c.args.octet))
    (c.push_bits.ensures b (c.push_octet.ensures.left b s c.if-not-push_octet.true))
