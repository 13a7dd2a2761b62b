use Rattle.hdlc_framer.proofs.Common.{arith, flags}
use Rattle.hdlc_framer.proofs.StuffLemmas.{joined_more, body_sent}
use Rattle.hdlc_framer.proofs.stuffing.stuff.Goals as goal

pub loop-place-preserved : goal.loop-place-preserved
loop-place-preserved c =
    joined_more (flags c.args.opening) c.loop-place.bits.items c.push_next.new.bits.items c.args.frames.now
    c.loop-place.place c.index-frames-place.result (omega arith)
    c.index-frames-place.is c.loop-place.invariant c.in_ok-push_next.ensures

pub returns : goal.returns
returns c =
    body_sent c.args.frames.now c.args.opening c.args.closing c.loop-place.place c.loop-place.bits.items
    c.push_flags-2.new.bits.items (omega arith)
    c.loop-place.invariant c.in_ok-push_flags-2.ensures
