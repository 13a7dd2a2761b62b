-- An event that is admitted.
use Rattle.station.proofs.Common.{HostEvent, Held, JoinsAnew}
use Rattle.station.specs.declared.host_event.HostEvent.TheVariants.{Joined, Bytes, Left}
use Rattle.station.specs.Held.{IsAdmitted}

-- joins under a new id
pub admitted_anew : (event : HostEvent) (held : Held) → IsAdmitted event held → JoinsAnew event held.parts
admitted_anew (Joined id kind) held h = h
admitted_anew (Bytes id octets) held h = tt
admitted_anew (Left id) held h = tt
