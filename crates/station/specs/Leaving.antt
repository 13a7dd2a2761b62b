-- A connection leaves: its registrations end, it is told of no frame any more, and each link of it, in the order of
-- their keys, has no owner from then on and is disconnected. What it tells is told to nobody.
use Rattle.std.specs.Prelude.{ℕ, if◌then◌else◌, map, Option, Some, None}
use Rattle.std.specs.List.{range_with_len}
use Rattle.link_machine.specs.Event.Event.{Disconnect}
use Rattle.station.specs.Askers.{without_askers}
use Rattle.station.specs.Connections.{without_connection}
use Rattle.station.specs.LinkEvents.{event_at, with_links}
use Rattle.station.specs.Links.{Link, most_links, link_at, with_link}
use Rattle.station.specs.Registrations.{is_number, without_registrations}
use Rattle.station.specs.State.{StationState}
use Rattle.station.specs.Turn.{Act, in_order, changing, closing}

abbrev pub without_host : ℕ → StationState → StationState
without_host id s = record s {
  connections = without_connection id s.connections;
  registrations = without_registrations id s.registrations;
  askers = without_askers id s.askers;
}

abbrev pub without_owner : Link → Link
without_owner link = record link { owner = None }

-- the link of a key is given up, if it is the connection's
abbrev pub giving_up_link : ℕ → ℕ → Option Link → Act
giving_up_link id key None turn = turn
giving_up_link id key (Some link) turn =
    if is_number id link.owner
    then event_at key Disconnect (changing (with_links (with_link key (without_owner link))) turn) else turn

abbrev pub giving_up : ℕ → ℕ → Act
giving_up id key turn = giving_up_link id key (link_at key turn.now.links) turn

unfoldable pub giving_up_all : ℕ → Act
giving_up_all id = in_order (map (giving_up id) (range_with_len 0 most_links))

abbrev pub leaving : ℕ → Act
leaving id turn = giving_up_all id (changing (without_host id) turn)

-- a connection is closed, and has left
abbrev pub shutting : ℕ → Act
shutting id turn = leaving id (closing id turn)
