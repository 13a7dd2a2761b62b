use Rattle.hf_tracking.proofs.Common.{◌≤◌, ℤ, unsigned_abs, subst, sym, arith}
use Rattle.hf_tracking.proofs.PhasorLemmas.{product_is, product_size}
use Rattle.hf_tracking.proofs.phasors.product_heard.Goals as goal

pub returns-clause-value : goal.returns-clause-value
returns-clause-value c =
    product_is 800000000 209715200 c.args.part c.args.heard c.requires.part c.requires.heard (omega arith) (omega arith) (omega arith)

pub returns-clause-bound : goal.returns-clause-bound
returns-clause-bound c =
    subst (λ (z : ℤ). unsigned_abs z ≤ 167772160000000000) (sym (returns-clause-value c))
    (product_size 800000000 209715200 c.args.part c.args.heard c.requires.part c.requires.heard)
