-- The bank and the receiver hear the same samples.
use Rattle.channel_bench.proofs.Common.{◌++◌, ◌≡◌, ◌∙◌, ap, arith, map, refl, sym, subst, if_took}
use Rattle.fx25_receiver.specs.WithoutBlocks.{candidate_of}
use Rattle.channel_bench.proofs.Common.{AreReadyInBlocks}
use Rattle.channel_bench.proofs.BlockEarLemmas.{block_ear_more, block_lengths}
use Rattle.channel_bench.proofs.block_ear.BlockEar.listen.Goals as goal

pub feed-requires : goal.feed-requires
feed-requires c =
    let h = c.requires.stands.1 in omega (arith, h.bank.count, h.count, c.requires.few, c.requires.samples)

pub block-requires : goal.block-requires
block-requires c =
    let h = c.requires.stands.1 in omega (arith, h.so_far.taken.count, h.count, c.requires.few, c.requires.samples)

pub returns-clause-heard : goal.returns-clause-heard
returns-clause-heard c = λ x h.
    let y = c.args.samples.now in
    let own = c.in_ok-heard.heard.items in
    let made = block_ear_more x y c.args.self.now _ own c.requires.samples
    (λ bank. (if_took _ c.feed.result _ c.in_ok-took.ensures.value c.feed.ensures.found x bank).0)
    c.feed.ensures.flags refl
    (if_took _ c.block.result c.in_ok-heard.heard c.in_ok-heard.ensures.value c.block.ensures.given x) h in
    let items : c.in_ok-items.items.items ≡ map candidate_of own =
    if_took _ c.candidates.result c.in_ok-items.items c.in_ok-items.ensures.value c.candidates.ensures
    ∙ ap (map candidate_of) c.deref.ensures.value in
    (made.0, subst (AreReadyInBlocks (x ++ y)) (sym items) made.1)

pub returns-clause-lengths : goal.returns-clause-lengths
returns-clause-lengths c =
    let x = c.requires.stands.0 in
    block_lengths (x ++ c.args.samples.now) c.in_ok-items.items.items
    (returns-clause-heard c x c.requires.stands.1).1
