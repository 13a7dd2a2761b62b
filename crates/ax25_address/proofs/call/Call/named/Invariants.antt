use Rattle.ax25_address.proofs.CallLemmas.{IsFilling}
use Rattle.ax25_address.proofs.call.Call.named.Given as goal

abbrev pub invariant-loop-index : goal.invariant-loop-index
invariant-loop-index l = IsFilling l.name l.characters l.index
