use Rattle.fx25_blocks.proofs.Common.{◌≡◌, ℕ, ◌+◌, ◌≤◌, ap, subst, sym, ◌∙◌, inl, inr, arith, cases_eq}
use Rattle.fx25_blocks.proofs.Common.{bits_of_64, differing, tag_bits}
use Rattle.fx25_blocks.proofs.TagDistance.{length-bits_of_64, one_tag}
use Rattle.fx25_blocks.proofs.tag_search.near_tag.Goals as goal

pub loop-place-preserved : goal.loop-place-preserved
loop-place-preserved c = λ n least most.
    elim (cases_eq n (c.loop-place.place + 1)) [
      | inl last ↦
          let wrong : c.wrong_bits.result ≡ differing (bits_of_64 c.args.register) (tag_bits n) = c.wrong_bits.ensures
          ∙ ap (λ v. differing (bits_of_64 c.args.register) (bits_of_64 v)) c.tag_value.ensures
          ∙ ap (λ m. differing (bits_of_64 c.args.register) (tag_bits m)) (sym last) in
          omega (arith, wrong)
      | inr other ↦ c.loop-place.invariant n least (omega arith)
    ]

pub returns-then-wrong_bits-le-MOST_WRONG_BITS-clause-near : goal.returns-then-wrong_bits-le-MOST_WRONG_BITS-clause-near
returns-then-wrong_bits-le-MOST_WRONG_BITS-clause-near c = λ n is_tag.
    let heard = bits_of_64 c.args.register in
    let tag : ℕ = c.loop-place.place + 1 in
    let wrong : c.wrong_bits.result ≡ differing heard (tag_bits tag) = c.wrong_bits.ensures
    ∙ ap (λ v. differing heard (bits_of_64 v)) c.tag_value.ensures in
    let near : differing heard (tag_bits tag) ≤ 12 = omega (arith, wrong) in
    let size = length-bits_of_64 c.args.register in (
      λ same. subst (λ m. differing heard (tag_bits m) ≤ 12) same near,
      λ also. one_tag tag n heard (omega arith, omega arith) is_tag (record { size = size; near = near })
          (record { size = size; near = also }),
    )

pub returns-clause-near : goal.returns-clause-near
returns-clause-near c = λ n is_tag. (
  λ same. absurd (omega arith),
  λ near. absurd (omega (arith, c.loop-place.invariant n is_tag.0 (omega arith))),
)
