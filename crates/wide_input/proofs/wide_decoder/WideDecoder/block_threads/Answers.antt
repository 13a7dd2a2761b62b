use Rattle.wide_input.proofs.Common.{◌≡◌, ◌++◌, ℤ, List, length, take, subst, IfOk, IfOk-weaker, least_count}
use Rattle.wide_input.proofs.Common.{AreWideMergedBetween}
use Rattle.resampler.specs.Filtered.{filtered}
use Rattle.wide_input.specs.MergedItems.{settled_ends}
use Rattle.wide_input.specs.Held.{StandsFor as BankStandsFor}
use Rattle.wide_input.specs.HeldDecoder.{HeldDecoder, StandsFor}
use Rattle.wide_input.proofs.DecoderLemmas.{block_given}
use Rattle.wide_input.proofs.wide_decoder.WideDecoder.block_threads.Goals as goal

pub returns-clause-given : goal.returns-clause-given
returns-clause-given g c =
    let block : List ℤ = c.args.block.now in
    let part : List ℤ = take c.feed-count.result c.feed-count.new.out in
    let new : HeldDecoder = record { filter = c.feed-count.new.self; bank = c.block_threads.new.self } in
    let P : HeldDecoder → Type 0 = λ old. IfOk c.block_threads.result (λ items. (x : List ℤ) → StandsFor old x
    → StandsFor new (x ++ block) × AreWideMergedBetween (settled_ends (length x))
    (settled_ends (length (x ++ block))) (filtered (x ++ block)) items.items) in
    subst P c.self.view_is (IfOk-weaker c.block_threads.result
    (λ items. (u : List ℤ) → BankStandsFor c.self.inside.bank u → BankStandsFor c.block_threads.new.self (u ++ part)
    × AreWideMergedBetween (least_count u) (least_count (u ++ part)) (u ++ part) items.items)
    (λ items. (x : List ℤ) → StandsFor (record { filter = c.self.inside.filter; bank = c.self.inside.bank }) x
    → StandsFor new (x ++ block) × AreWideMergedBetween (settled_ends (length x))
    (settled_ends (length (x ++ block))) (filtered (x ++ block)) items.items)
    (λ items gives. block_given c.self.inside.filter c.feed-count.new.self c.self.inside.bank c.block_threads.new.self block part
    items.items c.feed-count.ensures.stands_for c.feed-count.ensures.settled gives)
    c.block_threads.ensures.given)
