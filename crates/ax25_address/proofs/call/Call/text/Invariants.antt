use Rattle.ax25_address.proofs.Common.{◌≡◌, take}
use Rattle.ax25_address.proofs.call.Call.text.Given as goal

abbrev pub invariant-loop-index : goal.invariant-loop-index
invariant-loop-index l = l.text.bytes ≡ take l.index l.self-inside.characters
