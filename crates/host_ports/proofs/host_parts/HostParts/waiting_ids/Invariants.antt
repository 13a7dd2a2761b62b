-- Those so far.
use Rattle.host_ports.proofs.Common.{take, ReportLine, AreParts, Hosts}
use Rattle.std.proofs.Common.{List}
use Rattle.host_ports.proofs.PauseLemmas.{AreWaitingOf}
use Rattle.host_ports.proofs.host_parts.HostParts.waiting_ids.Given as goal

abbrev pub invariant-loop-client : goal.invariant-loop-client
invariant-loop-client l =
    (printed : List ReportLine) (hosts : Hosts) → AreParts l.self printed hosts
    → AreWaitingOf l.ids.items (take l.client-index l.self.clients.items) hosts
