use Rattle.reed_solomon.proofs.Common.{◌+◌, ◌<◌, length, arith, count_true, sym, ap, ◌∙◌}
use Rattle.reed_solomon.proofs.RootLemmas.{count_true_nil, count_true_root, count_true_none}
use Rattle.reed_solomon.proofs.unknown.count_true.Goals.{then-flag, else-flag}
use Rattle.reed_solomon.proofs.unknown.count_true.Goals as goal

pub loop-flag-init : goal.loop-flag-init
loop-flag-init c = record { value = sym count_true_nil; most = omega arith }

pub loop-flag-preserved : goal.loop-flag-preserved
loop-flag-preserved c =
    let flags = c.args.flags.now in
    let i = c.loop-flag.flag-index in
    elim c.if-flag.branch [
      | then-flag w ↦ record {
        value = omega (
          arith,
          w.count-is,
          count_true_root flags i (omega arith) w.if-flag.true,
          c.loop-flag.invariant.value,
        );
        most = omega (arith, w.count-is, c.loop-flag.invariant.most);
      }
      | else-flag w ↦ record {
        value = omega (
          arith,
          w.count-is,
          count_true_none flags i (omega arith) w.if-flag.false,
          c.loop-flag.invariant.value,
        );
        most = omega (arith, w.count-is, c.loop-flag.invariant.most);
      }
    ]
