-- What the law asks of the transmit queue: while the link of two calls is not up at A, none of its SABM, SABME and DISC
-- finds that of A full. Nothing is asked of B.
use Rattle.station_laws.proofs.Common.{All, ⊤, End, A, B, Step, Calls, link_at_end, LinkStep, steps_of, AsksInRoom}
use Rattle.std.specs.Prelude.{List, [], ◌∷◌}

abbrev pub AsksFindRoomAt : End → LinkStep → Type 0
AsksFindRoomAt A step = AsksInRoom step
AsksFindRoomAt B step = ⊤

abbrev pub AsksFindRoom : Calls → List Step → Type 0
AsksFindRoom calls [] = ⊤
AsksFindRoom calls (step ∷ steps) =
    All (AsksFindRoomAt step.station) (steps_of (link_at_end calls step.station) step) × AsksFindRoom calls steps
