use Rattle.ax25_address.proofs.Common.{◌≡◌, map, take, reverse, undone}
use Rattle.ax25_address.proofs.path.reversed.Given as goal

abbrev pub invariant-loop-k : goal.invariant-loop-k
invariant-loop-k l = l.repeaters.items ≡ map undone (take l.k (reverse l.hops))
