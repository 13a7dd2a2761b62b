use Rattle.tnc_encode.proofs.Common.{length, sym, ap, ◌∙◌, eqb-true}
use Rattle.tnc_encode.proofs.CountingLemmas.{joined_samples, none_joined_samples, some_of}
use Rattle.tnc_encode.proofs.counting.count_joined.Goals as goal

pub returns-then-is_empty : goal.returns-then-is_empty
returns-then-is_empty c =
    sym (ap length (none_joined_samples c.args.words c.args.frames.now c.requires.join
    (eqb-true (length c.args.frames.now) 0 (sym c.if-is_empty.ensures))))

pub returns : goal.returns
returns c =
    c.in_ok-count_at_once.ensures.count
    ∙ ap length (joined_samples c.args.words c.args.frames.now c.requires.join
    (some_of (length c.args.frames.now) (sym c.if-is_empty.ensures)))
