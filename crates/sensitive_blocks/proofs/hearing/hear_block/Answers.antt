use Rattle.sensitive_blocks.proofs.Common.{◌≡◌, ◌+◌, ◌-◌, ◌*◌, ℕ, List, ◌++◌, length, subst, sym, ◌∙◌}
use Rattle.sensitive_blocks.proofs.Common.{arith, EndsUnsureBlock, block_length, ends, lane_bits, lane_certainties}
use Rattle.sensitive_blocks.proofs.Common.{lane_tones}
use Rattle.std.specs.Prelude.{IfSome}
use Rattle.std.specs.Option.{IfNone}
use Rattle.fx25_receiver.proofs.TakenLemmas.{unsure_block_bounds}
use Rattle.sensitive_blocks.proofs.BitLemmas.{length-lane_bits}
use Rattle.sensitive_blocks.proofs.TakenLemmas.{taken_block, taken_no_block}
use Rattle.sensitive_blocks.proofs.hearing.hear_block.Goals as goal

pub returns-in-None : goal.returns-in-None
returns-in-None c = λ x before read stands found none taken.
    let there = lane_bits x c.args.bit.lane (c.args.bit.end + 1) in
    let sure = lane_certainties x c.args.bit.lane (c.args.bit.end + 1) in
    taken_no_block x c.args.bit.lane c.args.bit.end c.requires.lane read c.args.kept.now.items
    (before ++ c.args.given.now.items) c.args.tag c.requires.tag
    (subst (λ o. IfNone o ((frame : List ℕ) → (over : ℕ) → ¬ EndsUnsureBlock there sure c.args.tag frame over)) c.in-None.is none)
    taken

pub returns-in_ok-put-in-Some : goal.returns-in_ok-put-in-Some
returns-in_ok-put-in-Some c = λ x before read stands found none taken.
    let lane = c.args.bit.lane in
    let end = c.args.bit.end in
    let tag = c.args.tag in
    let there = lane_bits x lane (end + 1) in
    let sure = lane_certainties x lane (end + 1) in
    let block = subst (λ o. IfSome o (λ f. EndsUnsureBlock there sure tag f.octets.items f.over)) c.in-Some.is found in
    let over = c.in-Some.found.over in
    let bounds = unsure_block_bounds there sure tag c.in-Some.found.octets.items over block in
    let least = bounds.0 in
    let most = bounds.1 in
    let size : length there ≡ length (ends x lane (end + 1)) =
    length-lane_bits x lane (end + 1) in
    let octets_is = c.block_length.ensures.value in
    let index : ℕ = length there + over - (8 * block_length tag + 1) in
    let octets = c.in_ok-octets-in-Some.octets in
    let at = c.end_before.result in
    let back = c.saturating_sub-back.ensures in
    let same : EndsUnsureBlock there sure tag octets over =
    subst (λ octets. EndsUnsureBlock there sure tag octets over)
    (sym (c.in_ok-octets-in-Some.ensures ∙ c.as_slice.ensures.value)) block in
    taken_block x lane end c.requires.lane read c.args.kept.now.items (before ++ c.args.given.now.items) tag octets over index at
    c.put.new.kept.items (before ++ c.put.new.given.items) same (omega arith)
    (c.end_before.ensures (lane_tones x lane (end + 1)) (lane_certainties x lane (end + 1)) (ends x lane (end + 1)) index stands
    (omega arith))
    taken
    (c.in_ok-put-in-Some.ensures.keeps end taken.heard (omega arith) taken.keeps)
    (c.in_ok-put-in-Some.ensures.given end taken.heard before (omega arith) taken.keeps taken.given_is)
