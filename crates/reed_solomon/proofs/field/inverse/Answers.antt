use Rattle.reed_solomon.proofs.Common.{◌-◌, ap, sym, ◌∙◌, arith, logarithm, product, power, times_power}
use Rattle.reed_solomon.proofs.FieldLemmas.{power-product, product_comm, product-one, quotient-product}
use Rattle.reed_solomon.proofs.field.inverse.Goals as goal

pub returns : goal.returns
returns c =
    let a = c.args.a in
    ap (λ n. product n a) (c.power.ensures ∙ ap (λ n. power (255 - n)) c.logarithm.ensures)
    ∙ power-product (255 - logarithm a) a (omega arith)
    ∙ ap (times_power (255 - logarithm a)) (sym (product_comm 1 a (omega arith) (omega arith)
    ∙ product-one a (omega arith)))
    ∙ quotient-product 1 a c.requires (omega arith) (omega arith)
