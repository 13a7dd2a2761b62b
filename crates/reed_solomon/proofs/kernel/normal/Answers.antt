use Rattle.reed_solomon.proofs.Common.{◌≡◌, ℕ, List, length, map, replicate, ap, subst, sym, ◌∙◌, length-map, product}
use Rattle.reed_solomon.proofs.Common.{dot, IsMultiple, added}
use Rattle.reed_solomon.proofs.KernelLemmas.{dot-product, added-zeros, is_multiple}
use Rattle.reed_solomon.proofs.ValueLemmas.{octets_from}
use Rattle.reed_solomon.proofs.kernel.normal.Goals as goal

-- zeros with a multiple added
of_zeros : (a : ℕ) (xs : List ℕ) → length xs ≡ 33 → added (replicate 33 0) (map (product a) xs) ≡ map (product a) xs
of_zeros a xs size = added-zeros 33 (map (product a) xs) (length-map xs (product a) ∙ size)

pub returns-clause-multiple : goal.returns-clause-multiple
returns-clause-multiple c =
    let xs = c.args.row.now in
    let is = c.add_multiple.ensures ∙ of_zeros c.inverse.result xs c.told-row in
    let P : List ℕ → Type 0 = λ ys. IsMultiple xs ys in
    subst P (sym is) (is_multiple c.inverse.result xs (octets_from xs (λ k below. c.fits-row k)))

pub returns-clause-one : goal.returns-clause-one
returns-clause-one c =
    let xs = c.args.row.now in
    let equation = c.args.equation.now in
    let is = c.add_multiple.ensures ∙ of_zeros c.inverse.result xs c.told-row in
    ap (λ ys. dot ys equation) is
    ∙ dot-product c.inverse.result xs equation (octets_from xs (λ k below. c.fits-row k))
    (octets_from equation (λ k below. (c.type_inv.equation k).fits))
    ∙ ap (product c.inverse.result) (sym c.dot.ensures) ∙ c.inverse.ensures
