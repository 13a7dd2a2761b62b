use Rattle.fx25_blocks.proofs.Common.{◌≡◌, ◌-◌, ◌*◌, Bool, List, length, take, ap, subst, ◌∙◌, arith, FitsNoTag}
use Rattle.fx25_blocks.proofs.Common.{IsTagFor}
use Rattle.fx25_blocks.proofs.Common.{IsWritten, bits_needed, padded, data_count, length-take}
use Rattle.fx25_blocks.proofs.TagFacts.{most_data}
use Rattle.fx25_blocks.proofs.WriteLemmas.{length-padded, unit_written}
use Rattle.fx25_blocks.proofs.block.write_block.Goals as goal

pub overflow_sub-sent : goal.overflow_sub-sent
overflow_sub-sent c = omega (
  arith,
  ap length (c.as_slice-sent.ensures.value ∙ c.in_ok-line.ensures),
  length-padded c.args.frame.now 239,
)

pub returns-in-None-clause-none : goal.returns-in-None-clause-none
returns-in-None-clause-none c =
    let frame = c.args.frame.now in
    let needed : length c.as_slice-sent.result.now - 1904 ≡ bits_needed frame = omega (
      arith,
      ap length (c.as_slice-sent.ensures.value ∙ c.in_ok-line.ensures),
      length-padded frame 239,
    ) in
    subst (FitsNoTag c.args.checks) needed c.in-None.ensures.none

pub slice_bounds-tagged-end : goal.slice_bounds-tagged-end
slice_bounds-tagged-end c = omega (
  arith,
  ap length (c.as_slice-sent.ensures.value ∙ c.in_ok-line.ensures),
  length-padded c.args.frame.now 239,
  c.data_count.ensures.most,
  length-take (8 * c.data_count.result) c.as_slice-sent.result.now,
)

pub tagged-requires-clause-size : goal.tagged-requires-clause-size
tagged-requires-clause-size c = omega (
  arith,
  ap length (c.as_slice-sent.ensures.value ∙ c.in_ok-line.ensures),
  length-padded c.args.frame.now 239,
  c.data_count.ensures.most,
  c.data_count.ensures.value,
  length-take (8 * c.data_count.result) c.as_slice-sent.result.now,
)

pub returns-clause-block : goal.returns-clause-block
returns-clause-block c =
    let frame = c.args.frame.now in
    let tag = c.in-Some.tag in
    let sent = c.as_slice-sent.result.now in
    let is : sent ≡ padded frame 239 = c.as_slice-sent.ensures.value ∙ c.in_ok-line.ensures in
    let needed : length sent - 1904 ≡ bits_needed frame = omega (arith, ap length is, length-padded frame 239) in
    let tag_for : IsTagFor c.args.checks (bits_needed frame) tag =
    subst (λ n. IsTagFor c.args.checks n tag) needed c.in-Some.ensures.tag in
    let P : List Bool → Type 0 = λ xs. IsWritten tag xs c.in_ok-bits-in-Some.bits.items in
    unit_written c.args.checks tag frame c.in_ok-bits-in-Some.bits.items (most_data tag tag_for.is_tag) tag_for
    (subst P (ap (λ n. take (8 * n) sent) c.data_count.ensures.value ∙ ap (take (8 * data_count tag)) is)
    c.in_ok-bits-in-Some.ensures)
