use Rattle.reed_solomon.proofs.Common.{◌+◌, ◌%◌, ap, sym, ◌∙◌, arith, power, times_power}
use Rattle.reed_solomon.proofs.FieldLemmas.{times_power-zero, times_power-mod, logarithm-lt, times_by_logarithm}
use Rattle.reed_solomon.proofs.field.times_power.Goals as goal

pub returns-then-a-eq0 : goal.returns-then-a-eq0
returns-then-a-eq0 c = sym (ap (times_power c.args.i) c.if-a-eq0.true ∙ times_power-zero c.args.i)

pub power-requires : goal.power-requires
power-requires c =
    omega (arith, c.logarithm.ensures, logarithm-lt c.args.a (omega arith) (omega arith))

pub returns : goal.returns
returns c =
    c.power.ensures ∙ ap (λ n. power (c.args.i % 255 + n)) c.logarithm.ensures
    ∙ times_by_logarithm (c.args.i % 255) c.args.a (omega arith) (omega arith)
    ∙ times_power-mod c.args.i c.args.a (omega arith)
