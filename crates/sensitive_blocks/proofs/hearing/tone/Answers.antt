use Rattle.sensitive_blocks.proofs.Common.{arith}
use Rattle.sensitive_blocks.proofs.BitLemmas.{window_read}
use Rattle.sensitive_blocks.proofs.MomentLemmas.{tone_told, window_tone}
use Rattle.sensitive_blocks.proofs.hearing.tone.Goals as goal

pub returns-then-lane-lt-FIRST : goal.returns-then-lane-lt-FIRST
returns-then-lane-lt-FIRST c = λ x end at read.
    window_tone x c.args.lane end c.args.moment.now.window c.decide.result c.if-lane-lt-FIRST.true c.decide.ensures
    (window_read x c.args.lane end c.if-lane-lt-FIRST.true read).least at.window

pub returns-else-lane-lt-FIRST : goal.returns-else-lane-lt-FIRST
returns-else-lane-lt-FIRST c = λ x end at read.
    let far = c.if-lane-lt-FIRST.false in
    let told = at.back c.args.lane (omega arith) c.requires.lane read in
    tone_told x c.args.lane end c.args.follower.now.position c.args.moment.now.back c.list_of.result c.tone_before.result
    (omega arith) read told.0 told.1 c.list_of.ensures (c.tone_before.ensures x at.taken)
