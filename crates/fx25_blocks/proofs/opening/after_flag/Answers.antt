use Rattle.fx25_blocks.proofs.Common.{false, take, subst, sym, arith, flag, take_more}
use Rattle.hdlc_framer.specs.Held.{StandsFor}
use Rattle.fx25_blocks.proofs.opening.after_flag.Goals as goal

pub loop-i-preserved : goal.loop-i-preserved
loop-i-preserved c =
    subst (λ bits. StandsFor c.push.new.self bits) (sym (take_more flag c.loop-i.i false (omega arith)))
    (c.push.ensures.stands_for (take c.loop-i.i flag) c.loop-i.invariant)
