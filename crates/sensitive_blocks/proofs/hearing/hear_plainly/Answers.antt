use Rattle.sensitive_blocks.proofs.Common.{◌++◌, ◌+◌, sym, subst, ◌∙◌, arith, true≢false, lane_bits, EndsFrame, IsTold}
use Rattle.hdlc_framer.proofs.FrameEnds.{one_frame}
use Rattle.sensitive_blocks.proofs.TakenLemmas.{taken_no_plain, taken_plain}
use Rattle.sensitive_blocks.proofs.hearing.hear_plainly.Goals as goal

pub returns-then-not-is_told : goal.returns-then-not-is_told
returns-then-not-is_told c = λ x before at read last taken.
    taken_no_plain x c.args.bit.lane c.args.bit.end c.requires.lane read c.args.kept.now.items
    (before ++ c.args.given.now.items)
    (λ octets frame told. true≢false (sym (c.is_told.ensures.lacks x c.args.bit.end at read
    (subst (IsTold x c.args.bit.lane c.args.bit.end)
    (one_frame (lane_bits x c.args.bit.lane (c.args.bit.end + 1)) octets c.args.octets.now frame last).0 told))
    ∙ c.if-not-is_told.true))
    taken

pub returns : goal.returns
returns c = λ x before at read last taken.
    let same = c.in_ok-octets.ensures in
    taken_plain x c.args.bit.lane c.args.bit.end c.requires.lane read c.args.kept.now.items
    (before ++ c.args.given.now.items) c.in_ok-octets.octets c.put.new.kept.items (before ++ c.put.new.given.items)
    (subst (λ o. EndsFrame (lane_bits x c.args.bit.lane (c.args.bit.end + 1)) o) (sym same) last)
    (subst (IsTold x c.args.bit.lane c.args.bit.end) (sym same)
    (c.is_told.ensures.told x c.args.bit.end at read c.if-not-is_told.false))
    taken
    (c.in_ok-put.ensures.keeps c.args.bit.end taken.heard (omega arith) taken.keeps)
    (c.in_ok-put.ensures.given c.args.bit.end taken.heard before (omega arith) taken.keeps taken.given_is)
