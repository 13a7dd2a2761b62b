use Rattle.fx25_blocks.proofs.Common.{subst, FitsNoTag, bits_needed, padded}
use Rattle.std.specs.Option.{IfNone}
use Rattle.fx25_blocks.specs.Units.IsUnit.{plain}
use Rattle.fx25_blocks.proofs.block.write_unit.Goals as goal

pub returns-in_ok-line-in-None : goal.returns-in_ok-line-in-None
unfolding padded
returns-in_ok-line-in-None c =
    plain (subst (λ o. IfNone o (FitsNoTag c.args.checks (bits_needed c.args.frame.now))) c.in-None.is
    c.in_ok-bits.ensures.none) c.in_ok-line-in-None.ensures
