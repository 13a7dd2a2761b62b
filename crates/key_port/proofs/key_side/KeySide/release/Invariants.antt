-- The calls so far.
use Rattle.std.proofs.Common.{◌≡◌, ℕ, List}
use Rattle.keying.specs.declared.machine.Words.{Words}
use Rattle.key_port.specs.KeyEvents.{KeyEvent}
use Rattle.key_port.specs.KeySides.{HasDone, GoesOn, Closes, port_of}
use Rattle.key_port.proofs.key_side.KeySide.release.Given as goal

abbrev pub invariant-asks : goal.invariant-asks
invariant-asks g l =
    ((words : Words) (octets : ℕ) (keyed : List KeyEvent) → HasDone words keyed l.initial.self
    → GoesOn (λ new. Closes words octets keyed new) words octets (g.O.Sink.told l.output).written keyed l.self
    (g.K.KeyPort.told l.initial.key) (g.K.KeyPort.told l.key))
    × (port_of l.self ≡ port_of l.initial.self)
