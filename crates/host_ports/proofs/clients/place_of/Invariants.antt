-- None so far.
use Rattle.host_ports.proofs.Common.{◌≡◌, ℕ, ◌<◌, get_or, Client}
use Rattle.host_ports.proofs.clients.place_of.Given as goal

abbrev pub invariant-loop-at : goal.invariant-loop-at
invariant-loop-at l = (k : ℕ) (d : Client) → k < l.at → (get_or l.clients k d).id ≡ l.id → ⊥
