-- How a link at its place stands for another one after an event. No public clause cites it.
use Rattle.std.specs.Prelude.{◌≡◌, ℕ, if◌then◌else◌, slice_index_or, slice_set, Option, Some, None}
use Rattle.link_machine.specs.declared.state.LinkState.{LinkState}
use Rattle.station.specs.declared.owned_link.OwnedLink.{OwnedLink}
use Rattle.station.specs.HeldLinks.{HeldLinks}
use Rattle.station.specs.LinkEvents.{is_idle}
use Rattle.station.specs.Links.{Link}
use Rattle.station.specs.StandsFor.{StandsForLink, StandsForPlace}

abbrev pub place_at : ℕ → HeldLinks → Option OwnedLink
place_at key held = slice_index_or held.places key None

-- what is at a key stands for the link
abbrev pub HasAt : ℕ → HeldLinks → Link → Type 0
HasAt key held link = StandsForPlace (place_at key held) (Some link)

-- after the event, another link is at the key, and no other place has changed
pub record IsSetAt (key : ℕ) (old new : HeldLinks) (link : Link) : Type 0 where
  pub held : OwnedLink
  pub stands : StandsForLink held link
  pub places : new.places ≡ slice_set old.places key (Some held)
  pub next : new.next ≡ old.next

-- an idle link is removed
abbrev pub settled_at : ℕ → HeldLinks → LinkState → HeldLinks
settled_at key held state =
    if is_idle state then record { places = slice_set held.places key None; next = key } else held
