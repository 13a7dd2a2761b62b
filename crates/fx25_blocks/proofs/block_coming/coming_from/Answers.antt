use Rattle.fx25_blocks.proofs.Common.{◌≡◌, ℕ, ◌≤◌, ap, subst, ◌∙◌, sym, arith, IsTag, bits_of_64, block_length}
use Rattle.fx25_blocks.proofs.Common.{differing, tag_bits}
use Rattle.fx25_blocks.proofs.TagFacts.{most_octets}
use Rattle.fx25_blocks.proofs.block_coming.coming_from.Goals as goal

pub returns-then-taken-lt-TAG_BITS-clause-count : goal.returns-then-taken-lt-TAG_BITS-clause-count
returns-then-taken-lt-TAG_BITS-clause-count c = λ more. (
  λ below. absurd (omega arith),
  λ h. let whole = h.whole in absurd (omega (arith, c.if-taken-lt-TAG_BITS.true)),
)

pub returns-then-tag-eq0-clause-count : goal.returns-then-tag-eq0-clause-count
returns-then-tag-eq0-clause-count c = λ more. (
  λ below. absurd (omega arith),
  λ h.
      let sure = h.sure in
      let same = (c.requires.near h.tag h.is_tag).1 (omega arith) in
      let first = h.is_tag.0 in
      absurd (omega (arith, c.if-tag-eq0.true)),
)

pub returns-then-wrong_bits-gt-MOST_WRONG_BITS-clause-count : goal.returns-then-wrong_bits-gt-MOST_WRONG_BITS-clause-count
returns-then-wrong_bits-gt-MOST_WRONG_BITS-clause-count c = λ more. (
  λ below. absurd (omega arith),
  λ h.
      let heard = bits_of_64 c.args.register in
      let sure = h.sure in
      let same = (c.requires.near h.tag h.is_tag).1 (omega arith) in
      let wrong : c.wrong_bits.result ≡ differing heard (tag_bits h.tag) = c.wrong_bits.ensures
      ∙ ap (λ v. differing heard (bits_of_64 v)) c.tag_value.ensures ∙ ap (λ m. differing heard (tag_bits m)) same in
      absurd (omega (arith, c.if-wrong_bits-gt-MOST_WRONG_BITS.true)),
)

pub returns-clause-count : goal.returns-clause-count
returns-clause-count c =
    let heard = bits_of_64 c.args.register in
    let most = c.requires.number in
    let other = c.if-tag-eq0.false in
    let least : 1 ≤ c.args.tag = omega (arith, other) in
    let is_tag : IsTag c.args.tag = (least, most) in
    let wrong : c.wrong_bits.result ≡ differing heard (tag_bits c.args.tag) = c.wrong_bits.ensures
    ∙ ap (λ v. differing heard (bits_of_64 v)) c.tag_value.ensures in
    let near = c.if-wrong_bits-gt-MOST_WRONG_BITS.false in
    let length = c.block_length.ensures.value in
    λ more. (
      λ below. record {
        tag = c.args.tag;
        is_tag = is_tag;
        whole = c.if-taken-lt-TAG_BITS.false;
        sure = (let few : differing heard (tag_bits c.args.tag) ≤ 8 = omega arith in few);
        within = omega (arith, below);
      },
      λ h.
          let sure = h.sure in
          let same = (c.requires.near h.tag h.is_tag).1 (omega arith) in
          let within = h.within in
          let alike : block_length c.args.tag ≡ block_length h.tag = ap block_length same in
          omega arith,
    )
