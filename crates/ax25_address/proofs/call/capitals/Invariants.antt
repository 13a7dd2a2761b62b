use Rattle.ax25_address.proofs.Common.{◌≡◌, map, take, to_ascii_uppercase}
use Rattle.ax25_address.proofs.call.capitals.Given as goal

abbrev pub invariant-loop-letter : goal.invariant-loop-letter
invariant-loop-letter l = l.name.items ≡ map to_ascii_uppercase (take l.letter-index l.letters)
