use Rattle.wide_input.proofs.Common.{arith, get_or, HeldStream}
use Rattle.wide_input.proofs.Visits.{DidHear, visited_more}
use Rattle.wide_input.proofs.streams.hear_in_turn.Goals as goal

pub loop-stream-preserved : goal.loop-stream-preserved
loop-stream-preserved c =
    let Did : HeldStream → HeldStream → Type 0 = DidHear c.args.block.now in
    let heard = c.hear.ensures in
    let did : Did (get_or c.loop-stream.streams c.loop-stream.stream-index c.stream-item.result) c.hear.new.self
    = record { heard = heard.heard; fits = heard.fits; position = heard.position; part = heard.part } in
    visited_more Did c.args.streams.now c.loop-stream.streams c.loop-stream.stream-index c.stream-item.result
    c.hear.new.self c.loop-stream.invariant c.loop-stream-test.true did

pub returns-clause-heard : goal.returns-clause-heard
returns-clause-heard c = λ number d small.
    (c.loop-stream.invariant.done number d (let past = c.loop-stream-test.false in let five = c.requires.streams in
    omega arith)).heard
