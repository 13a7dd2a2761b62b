use Rattle.fx25_blocks.proofs.Common.{◌≡◌, ℕ, ◌+◌, ◌-◌, take, drop, ap, sym, ◌∙◌, arith, low_bits, octet_bits}
use Rattle.fx25_blocks.proofs.Common.{take-take}
use Rattle.fx25_blocks.proofs.packing.octet_at.Goals as goal

pub returns : goal.returns
unfolding octet_bits
returns c =
    let rest = drop c.args.start c.args.bits.now in
    let width : ℕ = c.args.start + 8 - c.args.start in
    let eight : width ≡ 8 = omega arith in
    let all : c.loop-place.place ≡ 8 = omega arith in
    ap (λ n. low_bits n c.loop-place.octet) (sym all) ∙ c.loop-place.invariant.bits
    ∙ ap (λ n. take n (take width rest)) all ∙ ap (λ n. take 8 (take n rest)) eight
    ∙ take-take 8 8 rest (omega arith)
