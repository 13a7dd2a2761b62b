use Rattle.channel_access.proofs.Common.{ap, length, sym, ◌∙◌, arith, stuffed_rest}
use Rattle.channel_access.proofs.BlockLemmas.{frame_bits-most}
use Rattle.channel_access.proofs.FrameLemmas.{stuffed_rest-start, stuffed_after, stuffed_none_left}
use Rattle.channel_access.proofs.block_bits.bits_needed.Goals as goal

pub loop-count-init : goal.loop-count-init
loop-count-init c =
    let all = ap (λ f. length (stuffed_rest f c.args.octets.now)) c.new-at.ensures
    ∙ ap length (stuffed_rest-start c.args.octets.now) in
    record { left = omega (arith, all) }

pub loop-count-preserved : goal.loop-count-preserved
loop-count-preserved c =
    let next = stuffed_after c.loop-count.at c.in-Some.after c.args.octets.now _ (sym c.next.ensures ∙ c.in-Some.is) in
    record { left = omega (arith, c.loop-count.invariant.left, ap length next) }

pub returns-in_default : goal.returns-in_default
returns-in_default c =
    let none = stuffed_none_left c.loop-count.at c.args.octets.now (sym c.next.ensures ∙ c.in_default.is) in
    omega (arith, c.loop-count.invariant.left, ap length none)

pub returns : goal.returns
returns c =
    let most = frame_bits-most c.args.octets.now c.requires in
    let past = c.loop-count-test.false in
    omega (arith, c.loop-count.invariant.left)
