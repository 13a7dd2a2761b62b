use Rattle.wide_input.proofs.Common.{◌≡◌, ◌++◌, ℤ, List, length, take, subst, IfOk, IfOk-weaker}
use Rattle.resampler.specs.Filtered.{decimated}
use Rattle.sensitive_receiver.specs.MergedItems.{AreMergedBetween, settled}
use Rattle.sensitive_receiver.specs.HeldDecoder.{StandsFor as DecoderStandsFor}
use Rattle.wide_input.specs.SettledByAll.{settled_by_all}
use Rattle.wide_input.specs.HeldSensitive.{HeldSensitive, StandsFor}
use Rattle.wide_input.proofs.DecimatedLemmas.{block_decimated}
use Rattle.wide_input.proofs.sensitive_decoder.WideSensitiveDecoder.block_threads.Goals as goal

pub returns-clause-given : goal.returns-clause-given
returns-clause-given g c =
    let block : List ℤ = c.args.block.now in
    let part : List ℤ = take c.feed-count.result c.feed-count.new.out in
    let old = c.self.inside in
    let held : HeldSensitive = record { filter = old.filter; decoder = old.decoder; ended = old.ended } in
    let new : HeldSensitive
    = record { filter = c.feed-count.new.self; decoder = c.block_by.new.self; ended = old.ended } in
    let P : HeldSensitive → Type 0 = λ was. IfOk c.block_by.result (λ items. (x : List ℤ) → StandsFor was x
    → StandsFor new (x ++ block) × AreMergedBetween (settled_by_all (length x))
    (settled_by_all (length (x ++ block))) (decimated (x ++ block)) items.items) in
    subst P c.self.view_is (IfOk-weaker c.block_by.result
    (λ items. (u : List ℤ) → DecoderStandsFor old.decoder u → DecoderStandsFor c.block_by.new.self (u ++ part)
    × AreMergedBetween (settled (length u)) (settled (length (u ++ part))) (u ++ part) items.items)
    (λ items. (x : List ℤ) → StandsFor held x
    → StandsFor new (x ++ block) × AreMergedBetween (settled_by_all (length x))
    (settled_by_all (length (x ++ block))) (decimated (x ++ block)) items.items)
    (λ items gives. block_decimated old.filter c.feed-count.new.self old.decoder c.block_by.new.self old.ended block part
    items.items c.feed-count.ensures.stands_for c.feed-count.ensures.settled gives)
    c.block_by.ensures.given)
