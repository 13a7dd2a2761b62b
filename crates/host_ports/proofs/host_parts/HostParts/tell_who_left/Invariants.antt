-- Some were told of. Each step leaves less to tell.
use Rattle.host_ports.proofs.Common.{IsKnown, weight}
use Rattle.host_ports.proofs.LeftLemmas.{SomeLeft}
use Rattle.host_ports.proofs.host_parts.HostParts.tell_who_left.Given as goal

abbrev pub invariant-loop-first : goal.invariant-loop-first
invariant-loop-first l = record {
  some : SomeLeft l.initial.self l.self;
  known : IsKnown l.self;
}

abbrev pub decreases-loop-first : goal.decreases-loop-first
decreases-loop-first l = weight l.self
