use Rattle.host_ports.proofs.Common.{subst, sym, arith, MayCome}
use Rattle.std.proofs.Common.{All}
use Rattle.host_ports.proofs.real_ports.RealPortsPorts.poll.Goals as goal

pub returns-clause-events : goal.returns-clause-events
returns-clause-events g c =
    c.in_ok-gather.ensures.kept
    (c.in_ok-admit.ensures.kept c.args.paused.now
    (subst (All (MayCome c.args.paused.now)) (sym c.new-events.ensures.items)
    (λ k d within. absurd (omega (arith, within)))))
