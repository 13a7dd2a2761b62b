use Rattle.slicer_bank.proofs.Common.{◌++◌, ap, sym, ◌∙◌, subst, rules, arith, flat_map, IsPermutation}
use Rattle.slicer_bank.proofs.Common.{IsNonDecreasingBy, IsNonDecreasingBy-from_sort_by_key, Candidate}
use Rattle.slicer_bank.proofs.GatheringLemmas.{visited_none, visited_more, found_more, all_visited}
use Rattle.slicer_bank.proofs.BankGatheringLemmas.{items_of, heard_by, GaveHeard, fit_there, lanes_in_order}
use Rattle.slicer_bank.proofs.gathering.gather.Goals as goal

pub loop-index-init : goal.loop-index-init
loop-index-init c = (visited_none GaveHeard c.args.lanes.now c.requires.lanes, c.new-found.ensures.items)

pub loop-index-preserved : goal.loop-index-preserved
loop-index-preserved c =
    let heard = c.in_ok-heard.ensures.heard in
    let before = c.loop-index.invariant in (
      visited_more GaveHeard c.args.lanes.now c.loop-index.lanes c.loop-index.index c.index-lanes-index.result
          c.take_heard.new.self before.0 c.loop-index-test.true
          (c.in_ok-heard.ensures.alike, (c.in_ok-heard.heard.items, heard)),
      found_more GaveHeard heard_by c.args.lanes.now c.loop-index.lanes c.loop-index.index c.index-lanes-index.result
          c.loop-index.found.items c.append.new.self.items before.0 c.loop-index-test.true
          before.1 (c.in_ok-append.ensures.items ∙ ap (λ items. c.loop-index.found.items ++ items)
          (sym (ap items_of heard))),
    )

pub returns-clause-alike : goal.returns-clause-alike
returns-clause-alike c = λ offset d small. (c.loop-index.invariant.0.done offset d
    (let past = c.loop-index-test.false in omega arith)).0

pub returns-clause-kept : goal.returns-clause-kept
returns-clause-kept c = λ offset d small. (c.loop-index.invariant.0.done offset d
    (let past = c.loop-index-test.false in omega arith)).1

pub returns-clause-found : goal.returns-clause-found
returns-clause-found c = λ position x keep.
    let past = c.loop-index-test.false in
    let most = c.loop-index.auto.index-end in
    let all = c.loop-index.invariant.1 ∙ ap (flat_map heard_by)
    (all_visited GaveHeard c.args.lanes.now c.loop-index.lanes c.loop-index.index c.loop-index.invariant.0
    (omega arith)) in
    let moved : IsPermutation (flat_map heard_by c.args.lanes.now) c.sort_unstable_by_key.new.self.items
    = subst (λ items. IsPermutation items c.sort_unstable_by_key.new.self.items)
    all c.sort_unstable_by_key.ensures.permutation in
    let rises : IsNonDecreasingBy (λ (y : Candidate). y.end) c.sort_unstable_by_key.new.self.items
    = IsNonDecreasingBy-from_sort_by_key (λ (y : Candidate). y.end) _ c.sort_unstable_by_key.ensures.sorted
    (λ a r q k. search rules) in
    lanes_in_order c.args.lanes.now c.requires.lanes (λ k d l. (c.loop-index.invariant.0.done k d (omega arith)).1)
    c.sort_unstable_by_key.new.self.items moved position x rises keep

pub returns-clause-bounds : goal.returns-clause-bounds
returns-clause-bounds c = λ position keep.
    let past = c.loop-index-test.false in
    let most = c.loop-index.auto.index-end in
    let all = c.loop-index.invariant.1 ∙ ap (flat_map heard_by)
    (all_visited GaveHeard c.args.lanes.now c.loop-index.lanes c.loop-index.index c.loop-index.invariant.0
    (omega arith)) in
    let moved : IsPermutation (flat_map heard_by c.args.lanes.now) c.sort_unstable_by_key.new.self.items
    = subst (λ items. IsPermutation items c.sort_unstable_by_key.new.self.items)
    all c.sort_unstable_by_key.ensures.permutation in
    fit_there c.args.lanes.now c.requires.lanes (λ k d l. (c.loop-index.invariant.0.done k d (omega arith)).1)
    c.sort_unstable_by_key.new.self.items moved position keep
