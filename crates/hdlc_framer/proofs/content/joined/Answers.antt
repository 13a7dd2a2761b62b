use Rattle.hdlc_framer.proofs.Common.{◌≡◌, ◌≤◌, ◌<◌, ◌+◌, ◌*◌, ◌^◌, ◌%◌, ◌∙◌, ℕ, arith, ap}
use Rattle.std.proofs.Common.{rules}
use Rattle.std.proofs.Math.Nat.{mul_comm, mul-le-mul, pow-le-pow_right}
use Rattle.hdlc_framer.proofs.content.joined.Goals as goal

-- an octet above a part of one fits into sixteen bits
above_fits : (filled octet : ℕ) → filled < 8 → octet < 256 → octet * 2 ^ filled % 65536 ≡ 2 ^ filled * octet
above_fits filled octet few below =
    let high : filled ≤ 7 = omega arith in
    let low : octet ≤ 255 = omega arith in
    let power : 2 ^ filled ≤ 128 = pow-le-pow_right {n = 2} (omega arith) {i = filled} {j = 7} high in
    let least : octet * 2 ^ filled ≤ 255 * 128 = mul-le-mul {n₁ = octet} {m₁ = 2 ^ filled} {n₂ = 255} {m₂ = 128} low power in
    let same : octet * 2 ^ filled % 65536 ≡ octet * 2 ^ filled = omega (arith, least) in
    same ∙ mul_comm octet (2 ^ filled)

pub returns-clause-bits : goal.returns-clause-bits
returns-clause-bits c =
    let below : c.args.octet < 256 = search rules in
    (λ i. c.from.ensures i + c.from-2.ensures i * 2 ^ c.args.filled % 65536)
    ∙ ap (λ n. c.args.part + n) (above_fits c.args.filled c.args.octet c.requires.room below)
