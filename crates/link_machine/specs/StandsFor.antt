-- A link keeps its numbers modulo the modulus. It stands for each machine that is the same but for whole rounds: every
-- number agrees, so do the distances from V(A) to V(S) and to the top, and all else is equal.
use Rattle.std.specs.Prelude.{◌≡◌}
use Rattle.selective_reject.specs.Outgoing.{StandsForOutgoing}
use Rattle.selective_reject.specs.Incoming.{StandsForIncoming}
use Rattle.link_machine.specs.declared.machine.Machine.{Machine as Held}
use Rattle.link_machine.specs.Machine.{Machine}

pub record StandsFor (held : Held) (m : Machine) : Type 0 where
  pub path : held.path ≡ m.path
  pub params : held.params ≡ m.params
  pub control : held.control ≡ m.control
  pub outgoing : StandsForOutgoing held.outgoing m.outgoing
  pub incoming : StandsForIncoming held.incoming m.incoming
