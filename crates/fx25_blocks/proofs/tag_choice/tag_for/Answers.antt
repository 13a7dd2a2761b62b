use Rattle.fx25_blocks.proofs.Common.{◌≡◌, ℕ, ◌-◌, sym, ◌∙◌, inl, inr, arith, cases_lt, IsTag, check_count}
use Rattle.fx25_blocks.proofs.TagFacts.{fewer_data}
use Rattle.fx25_blocks.proofs.tag_choice.tag_for.Goals as goal

pub returns-then-needed-data_count-clause-tag : goal.returns-then-needed-data_count-clause-tag
returns-then-needed-data_count-clause-tag c =
    let tag : ℕ = 11 - c.loop-place.place in
    let is_tag : IsTag tag = (omega arith, omega arith) in
    let checks : check_count tag ≡ c.args.checks = sym c.check_count.ensures.value ∙ c.if-check_count-checks.true in
    record {
      is_tag = is_tag;
      checks_are = checks;
      fits = omega (arith, c.data_count.ensures.value);
      fewest = λ other is_other same fits. elim (cases_lt tag other) [
        | inl later ↦ absurd (c.loop-place.invariant other later is_other.1 same fits)
        | inr before ↦ fewer_data other tag is_other is_tag before (same ∙ sym checks)
      ];
    }
