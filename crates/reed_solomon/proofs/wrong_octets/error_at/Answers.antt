use Rattle.reed_solomon.proofs.Common.{◌≡◌, ◌-◌, ◌*◌, ◌∷◌, length, drop, ap, sym, ◌∙◌, arith, take_rest, times_power}
use Rattle.reed_solomon.proofs.Common.{dot, values_down, product, value_at}
use Rattle.reed_solomon.proofs.DistanceLemmas.{octets_of_all}
use Rattle.reed_solomon.proofs.ErrorLemmas.{error_value}
use Rattle.reed_solomon.proofs.ValueLemmas.{Octets}
use Rattle.reed_solomon.proofs.wrong_octets.error_at.Goals as goal

-- the list of coefficients, however it is read
all_is : (c : goal.After-product) → c.with_highest-all.result.items ≡ 1 ∷ c.with_roots-others.result.items
all_is c = c.with_highest-all.ensures ∙ ap (λ xs. 1 ∷ xs) c.as_slice.ensures.value

pub inverse-requires : goal.inverse-requires
inverse-requires c =
    let all = 1 ∷ c.with_roots-others.result.items in
    let p = c.args.p in
    let value : c.value_at.result ≡ value_at p all =
    c.value_at.ensures ∙ ap (value_at p) (c.as_slice-3.ensures.value ∙ c.with_highest-all.ensures
    ∙ ap (λ xs. 1 ∷ xs) c.as_slice.ensures.value) in
    omega (arith, value, c.with_roots-others.ensures.some p c.requires.place c.without.ensures.here)

pub returns : goal.returns
returns c = λ errors all_octets size is zeros.
    let others = c.with_roots-others.result.items in
    let all = 1 ∷ others in
    let p = c.args.p in
    let first = c.args.first_root in
    let syndromes = c.args.syndromes.now in
    let inverted = c.inverse.result in
    let octets : Octets all = (omega arith, octets_of_all others c.with_roots-others.ensures.octets) in
    let value : c.value_at.result ≡ value_at p all =
    c.value_at.ensures ∙ ap (value_at p) (c.as_slice-3.ensures.value ∙ all_is c) in
    let coefficients : c.as_slice-2.result.now ≡ all = c.as_slice-2.ensures.value ∙ all_is c in
    let size_all : c.len.result ≡ length all = c.len.ensures.value ∙ ap length (all_is c) in
    let sum : c.dot-sum.result ≡ dot all (drop (length syndromes - length all) (values_down errors first
    (length syndromes))) =
    c.dot-sum.ensures
    ∙ ap (dot c.as_slice-2.result.now) (take_rest syndromes (length syndromes - c.len.result))
    ∙ ap (λ xs. dot xs (drop (length syndromes - c.len.result) syndromes)) coefficients
    ∙ ap (λ n. dot all (drop (length syndromes - n) syndromes)) size_all
    ∙ ap (λ xs. dot all (drop (length syndromes - length all) xs)) is in
    c.product.ensures ∙ ap (product inverted) (c.times_power-share.ensures ∙ ap (times_power ((255 - first) * p)) sum)
    ∙ error_value first p (length syndromes) inverted all errors c.requires.first_root
    (omega (arith, c.with_roots-others.ensures.count, c.without.ensures.count, c.requires.few)) octets (octets_of_all errors all_octets)
    c.inverse.type_inv (ap (product inverted) (sym value) ∙ c.inverse.ensures) (λ q below other some.
    c.with_roots-others.ensures.zero q (omega arith) (c.without.ensures.elsewhere q other ∙ zeros q (omega arith) some))
