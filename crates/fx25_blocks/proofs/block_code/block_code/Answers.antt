use Rattle.fx25_blocks.proofs.Common.{◌≡◌, ◌%◌, ◌≤◌, ap, ◌∙◌, arith}
use Rattle.fx25_blocks.proofs.TagFacts.{even_checks, least_checks, most_checks}
use Rattle.fx25_blocks.proofs.block_code.block_code.Goals as goal

pub unwrap-requires : goal.unwrap-requires
unwrap-requires c =
    let tag = c.args.tag in
    let is = c.check_count.ensures.value in
    let even : c.check_count.result % 2 ≡ 0 = ap (λ n. n % 2) is ∙ even_checks tag c.requires in
    let least : 2 ≤ c.check_count.result = omega (arith, least_checks tag c.requires) in
    let most : c.check_count.result ≤ 64 = omega (arith, most_checks tag c.requires) in
    c.new.ensures.exactly.1 (omega arith, least, most, even)
