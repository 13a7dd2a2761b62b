use Rattle.host_ports.proofs.Common.{Kiss, Agw}
use Rattle.host_ports.proofs.RealLemmas.{admitted_may_come, join_both}
use Rattle.host_ports.proofs.real_ports.admit.Goals as goal

pub returns-in_ok-admit-clause-kept : goal.returns-in_ok-admit-clause-kept
returns-in_ok-admit-clause-kept c = λ paused may.
    let a = c.in_ok-admit.ensures.kiss_first in
    admitted_may_come Agw paused _ _ _ _ a.3 (admitted_may_come Kiss paused _ _ _ _ a.2 may)

pub returns-in_ok-admit-clause-joined : goal.returns-in_ok-admit-clause-joined
returns-in_ok-admit-clause-joined c =
    let a = c.in_ok-admit.ensures.kiss_first in join_both _ _ _ _ _ _ a.2 a.3
