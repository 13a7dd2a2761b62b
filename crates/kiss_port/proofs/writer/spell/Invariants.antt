-- The type and the octets so far are written after a FEND.
use Rattle.std.proofs.Common.{◌≡◌, ◌∷◌, take}
use Rattle.kiss_port.specs.Escapes.{fend, spelled}
use Rattle.kiss_port.proofs.writer.spell.Given as goal

abbrev pub invariant-loop-octet : goal.invariant-loop-octet
invariant-loop-octet l = l.stream.items ≡ fend ∷ spelled (l.kind ∷ take l.octet-index l.octets)
