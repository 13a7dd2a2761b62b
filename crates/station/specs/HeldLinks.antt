-- What the code keeps of the links: 64 places. No public clause cites it.
use Rattle.std.specs.Prelude.{◌≡◌, ℕ, ◌<◌, ◌&&◌, Bool, false, List, length, count_by, is_some, slice_index_or, Option}
use Rattle.std.specs.Prelude.{Some, None}
use Rattle.ax25_address.specs.Callsign.{Callsign}
use Rattle.ax25_address.specs.SameCall.{is_same_call}
use Rattle.station.specs.declared.owned_link.OwnedLink.{OwnedLink}
use Rattle.station.specs.Links.{most_links}

-- the link or nothing at each key, and the key of the next link
pub record HeldLinks : Type 0 where
  pub places : List (Option OwnedLink)
  pub next : ℕ

-- is it the link between these calls?
abbrev pub is_held_between : Callsign → Callsign → Option OwnedLink → Bool
is_held_between local remote None = false
is_held_between local remote (Some link) = is_same_call link.local local && is_same_call link.remote remote

-- no link has the key
pub record IsVacant (key : ℕ) (places : List (Option OwnedLink)) : Type 0 where
  pub within : key < most_links
  pub none : slice_index_or places key None ≡ None

-- 64 places, and while there is room for a link, its key is vacant
pub record IsTable (held : HeldLinks) : Type 0 where
  pub size : length held.places ≡ most_links
  pub room : count_by is_some held.places < most_links → IsVacant held.next held.places
