use Rattle.ax25_address.proofs.Written.{AreWrittenSoFar}
use Rattle.ax25_address.proofs.spelling.write_path.Given as goal

abbrev pub invariant-loop-k : goal.invariant-loop-k
invariant-loop-k l = AreWrittenSoFar l.path l.octets.items l.k
