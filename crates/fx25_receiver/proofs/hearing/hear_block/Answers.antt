use Rattle.fx25_receiver.proofs.Common.{◌≡◌, ◌+◌, ◌*◌, ℕ, List, ◌++◌, length, inl, inr, refl, ap, subst, sym, ◌∙◌}
use Rattle.fx25_receiver.proofs.Common.{arith}
use Rattle.fx25_receiver.proofs.Common.{bits, certainties, length-bits, EndsUnsureBlock, Heard, block_length}
use Rattle.std.specs.Prelude.{IfSome}
use Rattle.std.specs.Option.{IfNone}
use Rattle.fx25_receiver.proofs.TakenLemmas.{only_in_block, taken_none, taken_one, unsure_block_bounds}
use Rattle.fx25_receiver.proofs.hearing.hear_block.Goals as goal

pub returns-in-None : goal.returns-in-None
returns-in-None c = λ x before at found none taken.
    let tag = c.args.tag in
    let there = bits c.args.place.offset x in
    let numbers = certainties c.args.place.offset x in
    let refused : (frame : List ℕ) → (over : ℕ) → ¬ EndsUnsureBlock there numbers tag frame over =
    subst (λ o. IfNone o ((frame : List ℕ) → (over : ℕ) → ¬ EndsUnsureBlock there numbers tag frame over))
    c.in-None.is none in
    taken_none c.args.place x at tag c.args.kept.now.items (before ++ c.args.given.now.items) taken
    (λ item ends same. elim ends [
      | inl plain ↦ (let least = c.requires.0 in let none_of = plain.0 in omega arith)
      | inr block ↦ refused item.octets block.0
          (subst (λ t. EndsUnsureBlock there numbers t item.octets block.0) same block.1)
    ])

pub returns-in_ok-put-in-Some : goal.returns-in_ok-put-in-Some
returns-in_ok-put-in-Some c = λ x before at found none taken.
    let place = c.args.place in
    let tag = c.args.tag in
    let there = bits place.offset x in
    let numbers = certainties place.offset x in
    let size = at.end_is in
    let ends = subst (λ o. IfSome o (λ f. EndsUnsureBlock there numbers tag f.octets.items f.over)) c.in-Some.is found in
    let over = c.in-Some.found.over in
    let bounds = unsure_block_bounds there numbers tag c.in-Some.found.octets.items over ends in
    let least = bounds.0 in
    let most = bounds.1 in
    let count = length-bits place.offset x in
    let octets_is = c.block_length.ensures.value in
    let item : Heard = record {
      end = place.end;
      lane = place.offset;
      tag = tag;
      octets = c.in_ok-octets-in-Some.octets;
      at = c.plain_end.result;
    } in
    let is : EndsUnsureBlock there numbers tag item.octets over =
    subst (λ octets. EndsUnsureBlock there numbers tag octets over)
    (sym (c.in_ok-octets-in-Some.ensures ∙ c.as_slice.ensures.value)) ends in
    let placed : item.at + 8 * (8 * block_length tag) ≡ item.end + 8 * over =
    ap (λ n. item.at + 8 * (8 * n)) (sym octets_is)
    ∙ c.plain_end.ensures (omega arith) (omega arith) in
    taken_one place x at item c.args.kept.now.items c.put.new.kept.items (before ++ c.args.given.now.items)
    (before ++ c.put.new.given.items) taken refl refl (inr (over, is, placed))
    (only_in_block place x at item over is placed)
    (c.in_ok-put-in-Some.ensures.keeps (length x) taken.heard (omega arith) taken.keeps)
    (c.in_ok-put-in-Some.ensures.given (length x) taken.heard before (omega arith) taken.keeps taken.given_is)
