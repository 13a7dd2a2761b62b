use Rattle.reed_solomon.proofs.Common.{get_or, take, bit_xor, ap, sym, ◌∙◌, refl, arith, take_more, times_power}
use Rattle.reed_solomon.proofs.Common.{value_at}
use Rattle.reed_solomon.proofs.DistanceLemmas.{Octets-take}
use Rattle.reed_solomon.proofs.GeneratorLemmas.{value_at-push}
use Rattle.reed_solomon.proofs.ValueLemmas.{octets_from}
use Rattle.reed_solomon.proofs.values.value_at.Goals as goal

pub loop-octet-init : goal.loop-octet-init
unfolding value_at
loop-octet-init c = refl

pub loop-octet-preserved : goal.loop-octet-preserved
loop-octet-preserved c =
    let xs = c.args.octets.now in
    let i = c.loop-octet.octet-index in
    let j = c.args.j in
    let x = get_or xs i 0 in
    let octets = octets_from xs (λ k below. (c.type_inv.octets k).fits) in
    ap (λ n. bit_xor n x) (c.times_power.ensures ∙ ap (times_power j) c.loop-octet.invariant)
    ∙ sym (value_at-push j x (take i xs) (Octets-take i xs octets))
    ∙ ap (value_at j) (sym (take_more xs i 0 (omega arith)))
