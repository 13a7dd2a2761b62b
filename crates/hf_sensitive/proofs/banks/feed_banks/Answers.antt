use Rattle.hf_sensitive.proofs.Common.{◌≡◌, ◌+◌, ◌<◌, ◌++◌, ◌∙◌, ℤ, List, [], get_or, set, length, ap, sym, subst, arith, All-nil}
use Rattle.hf_sensitive.proofs.Common.{All, Candidate, CanBePutFrom, HeldBank, StandsFor, AddsAmong, places_in, first_lane}
use Rattle.hf_sensitive.proofs.Common.{least_end, AreAt}
use Rattle.hf_sensitive.proofs.BanksLemmas.{HaveFed, counts, fed_none, fed_more, all_at, all_stand, all_found}
use Rattle.hf_sensitive.proofs.banks.feed_banks.Goals as goal

pub loop-index-init : goal.loop-index-init
loop-index-init c =
    let P : Candidate → Type 0 = CanBePutFrom (least_end c.args.position) in
    fed_none c.args.position c.args.banks.now.items c.args.block.now c.new-found.result.items c.requires.at.count
    c.new-found.ensures.items (subst (All P) (sym c.new-found.ensures.items) (All-nil P))

pub feed-requires : goal.feed-requires
feed-requires c =
    let test = c.loop-index-test.true in
    let was : HeldBank = c.index_mut-bank.result.now in
    let there : was ≡ get_or c.loop-index.banks.items c.loop-index.index was
    = c.index_mut-bank.ensures.value ∙ ap (λ i. get_or c.loop-index.banks.items i was) c.from.ensures in
    let count = counts c.args.position c.loop-index.index c.args.banks.now.items c.loop-index.banks.items c.args.block.now
    c.loop-index.found.items was c.loop-index.invariant c.requires.at (omega arith) there in
    let room = c.requires.room in
    record { room = omega arith }

pub loop-index-preserved : goal.loop-index-preserved
loop-index-preserved c =
    let test = c.loop-index-test.true in
    let n = c.loop-index.index in
    let now : List HeldBank = c.loop-index.banks.items in
    let was : HeldBank = c.index_mut-bank.result.now in
    let bank : HeldBank = c.feed.new.self in
    let found : List Candidate = c.loop-index.found.items in
    let after : List Candidate = c.feed.new.found.items in
    let there : was ≡ get_or now n was
    = c.index_mut-bank.ensures.value ∙ ap (λ i. get_or now i was) c.from.ensures in
    let count = counts c.args.position n c.args.banks.now.items now c.args.block.now found was c.loop-index.invariant
    c.requires.at (omega arith) there in
    subst (λ i. HaveFed c.args.position (n + 1) c.args.banks.now.items (set now i bank) c.args.block.now after)
    (sym c.from.ensures)
    (fed_more c.args.position n c.args.banks.now.items now c.args.block.now found after was bank c.loop-index.invariant
    c.requires.at (omega arith) there c.feed.ensures.number c.in_ok-feed.ensures.count c.in_ok-feed.ensures.stands_for
    c.in_ok-feed.ensures.found
    (subst (λ m. All (CanBePutFrom (least_end m)) found → All (CanBePutFrom (least_end m)) after) count
    c.in_ok-feed.ensures.bounds))

pub returns-clause-at : goal.returns-clause-at
returns-clause-at c =
    let past = c.loop-index-test.false in
    let most = c.loop-index.auto.index-end in
    all_at c.args.position c.loop-index.index c.args.banks.now.items c.loop-index.banks.items c.args.block.now c.loop-index.found.items
    (omega arith) c.loop-index.invariant

pub returns-clause-stand_for : goal.returns-clause-stand_for
returns-clause-stand_for c =
    let past = c.loop-index-test.false in
    let most = c.loop-index.auto.index-end in
    all_stand c.args.position c.loop-index.index c.args.banks.now.items c.loop-index.banks.items c.args.block.now c.loop-index.found.items
    (omega arith) c.loop-index.invariant

pub returns-clause-found : goal.returns-clause-found
returns-clause-found c =
    let past = c.loop-index-test.false in
    let most = c.loop-index.auto.index-end in
    all_found c.args.position c.loop-index.index c.args.banks.now.items c.loop-index.banks.items c.args.block.now c.loop-index.found.items
    (omega arith) c.loop-index.invariant

pub returns-clause-bounds : goal.returns-clause-bounds
returns-clause-bounds c = c.loop-index.invariant.bounds
