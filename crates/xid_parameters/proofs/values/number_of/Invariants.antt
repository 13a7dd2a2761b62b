-- What was read is the high part of the number, and a number of so many octets.
use Rattle.std.proofs.Common.{◌≡◌, ◌<◌, ◌^◌, drop}
use Rattle.xid_parameters.specs.Values.{number_after, number_of}
use Rattle.xid_parameters.proofs.values.number_of.Given as goal

abbrev pub invariant-loop-octet : goal.invariant-loop-octet
invariant-loop-octet l =
    (number_after l.number (drop l.octet-index l.octets) ≡ number_of l.octets) × (l.number < 256 ^ l.octet-index)
