use Rattle.reed_solomon.proofs.Common.{◌+◌, ◌++◌, [], ◌∷◌, get_or, take, take_all, bit_xor, ap, sym, ◌∙◌, refl, arith}
use Rattle.reed_solomon.proofs.Common.{take_more, length-take, product, dot}
use Rattle.reed_solomon.proofs.KernelLemmas.{dot-push, dot-take}
use Rattle.reed_solomon.proofs.kernel.dot.Goals as goal

pub loop-i-init : goal.loop-i-init
unfolding dot
loop-i-init c = refl

pub loop-i-preserved : goal.loop-i-preserved
loop-i-preserved c =
    let xs = c.args.coefficients.now in
    let ys = c.args.syndromes.now in
    let i = c.loop-i.i in
    let both = ap (λ n. bit_xor n (product (get_or xs i 0) (get_or ys i 0))) c.loop-i.invariant in
    ap (bit_xor c.loop-i.sum) c.product-sum.ensures ∙ both
    ∙ sym (dot-push (take i xs) (take i ys) i (get_or xs i 0) (get_or ys i 0) (omega (arith, length-take i xs))
    (omega (arith, length-take i ys)))
    ∙ ap (λ zs. dot zs (take i ys ++ get_or ys i 0 ∷ [])) (sym (take_more xs i 0 (omega arith)))
    ∙ ap (dot (take (i + 1) xs)) (sym (take_more ys i 0 (omega arith)))

pub returns : goal.returns
returns c =
    let xs = c.args.coefficients.now in
    let ys = c.args.syndromes.now in
    let i = c.loop-i.i in
    c.loop-i.invariant ∙ ap (dot (take i xs)) (take_all i ys (omega arith)) ∙ dot-take i xs ys (omega arith)
