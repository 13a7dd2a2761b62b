-- What a station makes of an input depends on its state and on the input alone: no step of the definition has two
-- outcomes.
use Rattle.std.specs.Prelude.{◌≡◌}
use Rattle.station.specs.Turn.{Turn}
use Rattle.station_laws.specs.JointRun.{Input, IsTurn}

abbrev pub OneTurn : Type 0
OneTurn = (input : Input) (before after other : Turn) → IsTurn input before after → IsTurn input before other
    → after ≡ other
