use Rattle.sensitive_blocks.proofs.Common.{ℤ, List, pos, get_or}
use Rattle.std.proofs.Common.{FitsSigned, rules, to_z, of_z}
use Rattle.std.proofs.lemmas.Int.{to_z-of_z}
use mir.Syntax.{w16}
use Rattle.sensitive_blocks.proofs.ReceiverLemmas.{fed_more, fed_none}
use Rattle.sensitive_blocks.proofs.receiver.SensitiveBlocksReceiver.take.Goals as goal

pub loop-i-init : goal.loop-i-init
loop-i-init c = fed_none c.args.self.now c.args.line.now c.args.block.now c.args.given.now.items c.requires.next

pub loop-i-preserved : goal.loop-i-preserved
loop-i-preserved c =
    let block : List ℤ = c.args.block.now in
    let i = c.loop-i.i in
    let sample : ℤ = get_or block i (pos 0) in
    let fits : FitsSigned w16 sample = search rules in
    fed_more c.args.self.now c.loop-i.self c.step.new.self c.args.line.now block c.args.given.now.items c.loop-i.given.items
    c.step.new.given.items i (to_z w16 (of_z w16 sample)) c.window_at.result c.loop-i.invariant c.loop-i-test.true
    (to_z-of_z w16 sample fits) c.window_at.ensures c.in_ok-step.ensures.taken c.step.ensures.position
    c.in_ok-step.ensures.next c.step.ensures.recent c.step.ensures.spent
