use Rattle.slicer_bank.proofs.Common.{◌≡◌, ℤ, List, ◌++◌, sym, ◌∙◌, subst, length, IfOk, AreCandidatesAfter, HeldBank}
use Rattle.slicer_bank.proofs.Common.{AllPast}
use Rattle.slicer_bank.specs.Held.{StandsFor}
use Rattle.slicer_bank.proofs.FeedLemmas.{given_back, fed, bounds_of, past_of}
use Rattle.slicer_bank.proofs.bank.Bank.feed.Goals as goal

pub returns-clause-found : goal.returns-clause-found
returns-clause-found c =
    let P : HeldBank → Type 0 = λ old. IfOk c.settle.result (λ found. (x : List ℤ) → StandsFor old x
    → StandsFor c.settle.new.self (x ++ c.args.block.now)
    × AreCandidatesAfter (length x) (x ++ c.args.block.now) found.items) in
    let full : c.self.inside.lanes.len ≡ length c.hear_block-heard.new.lanes =
    sym (c.hear_block-heard.auto.lanes ∙ c.deref_mut.ensures.len) in
    subst P c.self.view_is
    (fed (λ found. found.items)
    (record {
      lanes = c.self.inside.lanes.items;
      recent = c.self.inside.recent;
      position = c.self.inside.position;
      flags = c.self.inside.flags;
      spent = c.self.inside.spent;
    })
    c.settle.new.self c.deref_mut.result.now c.hear_block-heard.new.lanes _ c.hear_block-heard.new.recent
    c.args.block.now
    c.deref_mut.ensures.value (given_back c.self.inside.lanes.len c.hear_block-heard.new.lanes c.self.inside.lanes.items
    full)
    c.settle.result c.hear_block-heard.result c.settle.ensures.same c.settle.ensures.counts
    c.hear_block-heard.ensures.found c.hear_block-heard.ensures.asks)

pub returns-clause-bounds : goal.returns-clause-bounds
returns-clause-bounds c =
    bounds_of (λ found. found.items) c.self.inside.position c.settle.result c.hear_block-heard.result c.settle.ensures.same
    c.hear_block-heard.ensures.bounds

pub returns-clause-past : goal.returns-clause-past
returns-clause-past c =
    let P : HeldBank → Type 0 = λ old. IfOk c.settle.result (λ found. AllPast old.position found.items) in
    subst P c.self.view_is
    (past_of (λ found. found.items) c.self.inside.position c.settle.result c.hear_block-heard.result c.settle.ensures.same
    c.hear_block-heard.ensures.bounds)
