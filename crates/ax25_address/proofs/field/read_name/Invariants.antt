use Rattle.ax25_address.proofs.FieldLemmas.{IsNameSoFar}
use Rattle.ax25_address.proofs.field.read_name.Given as goal

abbrev pub invariant-loop-i : goal.invariant-loop-i
invariant-loop-i l = IsNameSoFar l.octets l.start l.characters l.len l.i
