use Rattle.channel_bench.proofs.Common.{◌≡◌, length}
use Rattle.station_laws.specs.InFlight.{control_octet}
use Rattle.channel_bench.proofs.flight.control_octet.Given as goal

abbrev pub invariant-loop-octet : goal.invariant-loop-octet
invariant-loop-octet l = control_octet l.rest ≡ control_octet l.octets

abbrev pub decreases-loop-octet : goal.decreases-loop-octet
decreases-loop-octet l = length l.rest
