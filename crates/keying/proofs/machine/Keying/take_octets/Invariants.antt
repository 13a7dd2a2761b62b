use Rattle.keying.proofs.Common.{◌≡◌, drop, after_octets}
use Rattle.keying.proofs.machine.Keying.take_octets.Given as goal

abbrev pub invariant-loop-octet : goal.invariant-loop-octet
invariant-loop-octet l = after_octets (drop l.octet-index l.octets) l.self ≡ after_octets l.octets l.initial.self
