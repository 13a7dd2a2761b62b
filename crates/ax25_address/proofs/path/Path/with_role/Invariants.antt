use Rattle.ax25_address.proofs.Common.{◌≡◌, take}
use Rattle.ax25_address.proofs.path.Path.with_role.Given as goal

abbrev pub invariant-loop-hop : goal.invariant-loop-hop
invariant-loop-hop l = l.repeaters.items ≡ take l.hop-index l.hop-items
