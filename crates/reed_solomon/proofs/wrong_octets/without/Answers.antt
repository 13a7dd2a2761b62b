use Rattle.reed_solomon.proofs.Common.{◌<◌, false, length, arith, get_or-set_same, get_or-set_other}
use Rattle.reed_solomon.proofs.RootLemmas.{count_true_cleared}
use Rattle.reed_solomon.proofs.wrong_octets.without.Goals as goal

pub returns-clause-here : goal.returns-clause-here
returns-clause-here c = get_or-set_same c.args.flags.now c.args.p false false (omega (arith, c.told-flags))

pub returns-clause-elsewhere : goal.returns-clause-elsewhere
returns-clause-elsewhere c = λ q other. get_or-set_other c.args.flags.now c.args.p q false false other

pub returns-clause-count : goal.returns-clause-count
returns-clause-count c =
    count_true_cleared c.args.flags.now c.args.p (omega (arith, c.told-flags)) c.requires.flagged
