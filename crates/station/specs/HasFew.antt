-- How much a link of a connection holds, as the code keeps it. No public clause cites it.
use Rattle.std.specs.Prelude.{◌≡◌, ℕ, ◌≤◌, length, Some}
use Rattle.station.specs.declared.owned_link.OwnedLink.{OwnedLink}
use Rattle.station.specs.State.{most_held}

-- a link that is of the connection holds few packets
abbrev pub HasFew : ℕ → OwnedLink → Type 0
HasFew id link = link.owner ≡ Some id → length link.machine.outgoing.packets ≤ most_held
