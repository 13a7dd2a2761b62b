use Rattle.std.proofs.Common.{◌≡◌, ℕ, ◌<◌, true, get_or}
use Rattle.ax25_address.specs.declared.path.Hop.{Hop}
use Rattle.digipeater.proofs.repeater.next_repeater.Given as goal

abbrev pub invariant-loop-k : goal.invariant-loop-k
invariant-loop-k l = (j : ℕ) (d : Hop) → j < l.k → (get_or l.hops j d).done ≡ true
