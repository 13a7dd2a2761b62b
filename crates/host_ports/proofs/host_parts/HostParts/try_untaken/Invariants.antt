-- Those so far were tried.
use Rattle.host_ports.proofs.Common.{◌≡◌, ◌≤◌, ◌++◌, length, MovesBy, IsAtRest, InOrder, IsTried}
use Rattle.std.proofs.Common.{All}
use Rattle.host_ports.proofs.host_parts.HostParts.try_untaken.Given as goal

abbrev pub invariant-loop-one : goal.invariant-loop-one
invariant-loop-one l = record {
  moves : MovesBy (InOrder IsTried l.yielded) l.initial.self l.self;
  rest : IsAtRest l.self;
  parts : l.initial.one-iterator.rest.items ≡ l.yielded ++ l.one-iterator.rest.items;
  pieces : All (λ one. length one.octets ≤ 17) l.one-iterator.rest.items;
}
