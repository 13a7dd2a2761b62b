-- Which link is asked for a frame when the channel takes one: those that want to send are asked one after another by
-- their keys, round and round.
use Rattle.std.specs.Prelude.{ℕ, ◌+◌, Bool, false, ◌&&◌, nat_le, if◌then◌else◌, is_some, Option, Some, None}
use Rattle.std.specs.List.{find, range_with_len}
use Rattle.std.specs.Option.{option_or}
use Rattle.channel_access.specs.Channel.{takes_frame, takes_last}
use Rattle.link_machine.specs.Event.{Event}
use Rattle.link_machine.specs.Event.Event.{Seize}
use Rattle.link_machine.specs.Wants.{wants}
use Rattle.station.specs.LinkEvents.{event_at}
use Rattle.station.specs.Links.{Link, Links, link_at, most_links}
use Rattle.station.specs.State.{StationState}
use Rattle.station.specs.Turn.{Act, changing}

abbrev pub link_wants : Option Link → Bool
link_wants None = false
link_wants (Some link) = wants link.machine

-- the link of a key wants to send, and the key is this one or a greater one
abbrev pub wants_from : ℕ → Links → ℕ → Bool
wants_from start links key = nat_le start key && link_wants (link_at key links)

-- the key of the first link that wants to send, from this key on
unfoldable pub first_wanting : ℕ → Links → Option ℕ
first_wanting start links = find (wants_from start links) (range_with_len 0 most_links)

-- a link wants to send
abbrev pub some_wants : Links → Bool
some_wants links = is_some (first_wanting 0 links)

-- the key of the next one after the link of a key, round and round
abbrev pub next_wanting : ℕ → Links → Option ℕ
next_wanting last links = option_or (first_wanting (last + 1) links) (first_wanting 0 links)

abbrev pub with_asked : ℕ → StationState → StationState
with_asked key s = record s { asked = key }

-- the key of the link that is asked, if the channel takes a frame
abbrev pub asked_key : StationState → Option ℕ
asked_key s = if takes_frame s.channel then next_wanting s.asked s.links else None

-- what it is asked: whether the transmission ends with the frame, and whether both sides may send at once
abbrev pub seizing : StationState → Event
seizing s = Seize (takes_last s.channel) s.channel.parameters.full_duplex

abbrev pub asking_at : Option ℕ → Event → Act
asking_at None event turn = turn
asking_at (Some key) event turn = event_at key event (changing (with_asked key) turn)

abbrev pub asking : Act
asking turn = asking_at (asked_key turn.now) (seizing turn.now) turn
