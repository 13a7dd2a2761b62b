-- The fault tells of the same end of the run.
use Rattle.channel_bench.proofs.Common.{subst, IsEndedBy}
use Rattle.channel_bench.proofs.benching.fault_of.Goals as goal

pub returns-in-Stray : goal.returns-in-Stray
returns-in-Stray c = λ w h. subst (λ t. IsEndedBy w t) c.in-Stray.is h

pub returns-in-Unquiet : goal.returns-in-Unquiet
returns-in-Unquiet c = λ w h. subst (λ t. IsEndedBy w t) c.in-Unquiet.is h
