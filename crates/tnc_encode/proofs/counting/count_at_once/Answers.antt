use Rattle.tnc_encode.proofs.LengthLemmas.{counts_all}
use Rattle.tnc_encode.proofs.counting.count_at_once.Goals as goal

pub returns-in_ok-count-in-Bell202-clause-count : goal.returns-in_ok-count-in-Bell202-clause-count
returns-in_ok-count-in-Bell202-clause-count c =
    counts_all c.args.words c.args.frames.now c.in_ok-count-in-Bell202.count c.in-Bell202.is
    (c.in_ok-count-in-Bell202.ensures c.args.words.level)
