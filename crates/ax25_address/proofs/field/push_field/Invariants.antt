use Rattle.ax25_address.proofs.Common.{◌≡◌, ◌*◌, ◌++◌, map, take}
use Rattle.ax25_address.proofs.field.push_field.Given as goal

abbrev pub invariant-loop-character : goal.invariant-loop-character
invariant-loop-character l = l.octets.items ≡ l.fn.octets.items
    ++ map (λ c. 2 * c) (take l.character-index l.character-items)
