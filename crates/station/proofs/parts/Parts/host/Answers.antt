use Rattle.station.proofs.Common.{subst, HostEvent, JoinsAnew}
use Rattle.station.proofs.parts.Parts.host.Goals as goal

pub join-requires : goal.join-requires
join-requires c = subst (λ (event : HostEvent). JoinsAnew event c.args.self.now) c.in-Joined.is c.requires
