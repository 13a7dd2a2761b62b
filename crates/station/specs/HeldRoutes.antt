-- A route as the code keeps it. No public clause cites this.
use Rattle.std.specs.Prelude.{Option, option_map}
use Rattle.station.specs.declared.routes.Route.{Route as HeldRoute}
use Rattle.station.specs.Routes.{Route}

abbrev pub as_route : HeldRoute → Route
as_route held = record { local = held.local; remote = held.remote; repeaters = held.repeaters.items }

abbrev pub route_held : Option HeldRoute → Option Route
route_held held = option_map as_route held
