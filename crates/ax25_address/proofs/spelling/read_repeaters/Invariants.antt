use Rattle.ax25_address.proofs.PathLemmas.{AreOpenRepeaters}
use Rattle.ax25_address.proofs.spelling.read_repeaters.Given as goal

abbrev pub invariant-loop-k : goal.invariant-loop-k
invariant-loop-k l = AreOpenRepeaters l.repeaters.items l.k l.octets
