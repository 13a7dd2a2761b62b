use Rattle.reed_solomon.proofs.Common.{◌+◌, ap, sym, ◌∙◌, arith, power, logarithm, product}
use Rattle.reed_solomon.proofs.FieldLemmas.{zero-product, product-zero, logarithm-lt, product_by_logarithms}
use Rattle.reed_solomon.proofs.field.product.Goals.{then-a-eq0-via-then-a-eq0, then-a-eq0-via-else-a-eq0+then-b-eq0}
use Rattle.reed_solomon.proofs.field.product.Goals as goal

pub returns-then-a-eq0 : goal.returns-then-a-eq0
returns-then-a-eq0 c = elim c.then-a-eq0.branch [
  | then-a-eq0-via-then-a-eq0 w ↦ sym (ap (λ n. product n c.args.b) w.if-a-eq0.true ∙ zero-product c.args.b)
  | then-a-eq0-via-else-a-eq0+then-b-eq0 w ↦ sym (ap (product c.args.a) w.if-b-eq0.true ∙ product-zero c.args.a)
]

pub power-requires : goal.power-requires
power-requires c = omega (
  arith,
  c.logarithm.ensures,
  c.logarithm-2.ensures,
  logarithm-lt c.args.a (omega arith) (omega arith),
  logarithm-lt c.args.b (omega arith) (omega arith),
)

pub returns : goal.returns
returns c =
    c.power.ensures ∙ ap (λ n. power (n + c.logarithm-2.result)) c.logarithm.ensures
    ∙ ap (λ n. power (logarithm c.args.a + n)) c.logarithm-2.ensures
    ∙ product_by_logarithms c.args.a c.args.b (omega arith) (omega arith) (omega arith)
