-- The answers so far.
use Rattle.tnc_ports.proofs.Common.{ring_len}
use Rattle.tnc_ports.proofs.LiveMeter.{ReadsSoFar}
use Rattle.tnc_ports.proofs.meter.Meter.read_to.Given as goal

abbrev pub invariant-loop : goal.invariant-loop
invariant-loop l = ReadsSoFar (ring_len l.ring) l.to l.counter l.initial.self l.self
