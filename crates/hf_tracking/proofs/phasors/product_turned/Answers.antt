use Rattle.hf_tracking.proofs.Common.{◌≤◌, ℤ, unsigned_abs, subst, sym, arith}
use Rattle.hf_tracking.proofs.PhasorLemmas.{product_is, product_size}
use Rattle.hf_tracking.proofs.phasors.product_turned.Goals as goal

pub returns-clause-value : goal.returns-clause-value
returns-clause-value c =
    product_is 1400000000 1200 c.args.part c.args.turn c.requires.part c.requires.turn (omega arith) (omega arith) (omega arith)

pub returns-clause-bound : goal.returns-clause-bound
returns-clause-bound c =
    subst (λ (z : ℤ). unsigned_abs z ≤ 1680000000000) (sym (returns-clause-value c))
    (product_size 1400000000 1200 c.args.part c.args.turn c.requires.part c.requires.turn)
