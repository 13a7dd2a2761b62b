use Rattle.reed_solomon.proofs.Common.{◌≡◌, ◌+◌, suc, length, ap, ◌∙◌, arith, power, generator_of, with_root}
use Rattle.reed_solomon.proofs.generator.generator.Goals as goal

pub loop-k-init : goal.loop-k-init
unfolding generator_of
loop-k-init c = record { items = c.new-rest.ensures; count = ap length c.new-rest.ensures }

pub loop-k-preserved : goal.loop-k-preserved
unfolding generator_of
loop-k-preserved c =
    let k = c.loop-k.k in
    let next : suc k ≡ k + 1 = omega arith in
    record {
      items = c.add_root.ensures.items ∙ ap (λ n. with_root n c.loop-k.rest.items) c.power.ensures
          ∙ ap (with_root (power (c.args.first_root + k))) c.loop-k.invariant.items
          ∙ ap (generator_of c.args.first_root) next;
      count = omega (arith, c.add_root.ensures.len);
    }
