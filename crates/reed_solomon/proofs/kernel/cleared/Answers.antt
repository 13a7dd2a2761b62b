use Rattle.reed_solomon.proofs.Common.{ℕ, List, map, ap, subst, sym, ◌∙◌, product, dot, AddsMultiple, added}
use Rattle.reed_solomon.proofs.KernelLemmas.{adds_multiple, meets_by_multiple}
use Rattle.reed_solomon.proofs.ValueLemmas.{octets_from}
use Rattle.reed_solomon.proofs.kernel.cleared.Goals as goal

pub returns-clause-adds : goal.returns-clause-adds
returns-clause-adds c =
    let xs = c.args.row.now in
    let pivot = c.args.pivot.now in
    let P : List ℕ → Type 0 = λ ys. AddsMultiple pivot xs ys in
    subst P (sym c.add_multiple.ensures) (adds_multiple c.dot.result pivot xs (c.told-row ∙ sym c.told-pivot)
    (octets_from pivot (λ k below. c.fits-pivot k)) (octets_from xs (λ k below. c.fits-row k)))

pub returns-clause-meets : goal.returns-clause-meets
returns-clause-meets c =
    let xs = c.args.row.now in
    let pivot = c.args.pivot.now in
    let equation = c.args.equation.now in
    ap (λ ys. dot ys equation) (c.add_multiple.ensures
    ∙ ap (λ a. added xs (map (product a) pivot)) c.dot.ensures)
    ∙ meets_by_multiple pivot xs equation (c.told-row ∙ sym c.told-pivot)
    (octets_from pivot (λ k below. c.fits-pivot k)) (octets_from xs (λ k below. c.fits-row k))
    (octets_from equation (λ k below. (c.type_inv.equation k).fits)) c.requires.one
