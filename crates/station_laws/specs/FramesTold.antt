-- What a host program is told of the frames whose sending it wants to be told (KISS command 12, ACKMODE).
use Rattle.std.specs.Prelude.{◌≡◌, ℕ, ◌==◌, ◌&&◌, Bool, true, if◌then◌else◌, List, [], ◌∷◌, filter, length, slice_index}
use Rattle.std.specs.Prelude.{Option, Some, None}
use Rattle.channel_access.specs.declared.air_tick.Sent.{Sent}
use Rattle.kiss_port.specs.Items.{ack_command}
use Rattle.link_world.specs.declared.end.End.{End}
use Rattle.station.specs.declared.asker.Asker.{Asker}
use Rattle.station.specs.declared.config.Config.{Config}
use Rattle.station.specs.declared.host_out.Piece.{Piece}
use Rattle.station.specs.Askers.{answer_of, speaks_kiss}
use Rattle.station.specs.State.{StationState}
use Rattle.station.specs.Ticks.{air_in, asked_links}
use Rattle.station.specs.Turn.{Turn, begin}
use Rattle.station_laws.specs.JointRun.{Input, IsJointRun, Step, all_stepped, new_stations, state_of}
use Rattle.station_laws.specs.JointRun.Input.{FromHost, OffAir, OfClock}

-- an answer to a connection: its second octet, the first after the FEND, is the command
abbrev pub is_answer : ℕ → Piece → Bool
is_answer id piece = (piece.id == id) && (slice_index piece.octets 1 == ack_command)

abbrev pub answers_to : ℕ → List Piece → List Piece
answers_to id pieces = filter (is_answer id) pieces

-- who wants to be told of the front frame
abbrev pub front_asker : List (Option Asker) → Option Asker
front_asker [] = None
front_asker (asker ∷ others) = asker

-- and of the frame that a tick names as sent, which is the front one
abbrev pub asker_of_sent : Option Sent → List (Option Asker) → Option Asker
asker_of_sent None askers = None
asker_of_sent (Some sent) askers = front_asker askers

abbrev pub asker_in : Input → Turn → Option Asker
asker_in (FromHost event) turn = None
asker_in (OffAir octets) turn = None
asker_in (OfClock busy) turn = asker_of_sent (air_in busy turn).sent (asked_links busy turn).now.askers

-- the answer, if it is that connection which wants to be told
abbrev pub answer_for : ℕ → Option Asker → List Piece
answer_for id None = []
answer_for id (Some asker) = if asker.id == id then answer_of asker ∷ [] else []

-- In each step a connection of KISS is sent the answer for the frame that the step names as sent, if it wants to be told
-- of that frame, and no other.
abbrev pub AnswersAreOfSent : Type 0
AnswersAreOfSent =
    (step : Step) (id : ℕ) → speaks_kiss id step.before.connections ≡ true
    → answers_to id step.after.out.pieces ≡ answer_for id (asker_in step.input (begin step.before))

-- who wants to be told, and whose it is, stands beside each frame that waits
abbrev pub StandBeside : StationState → Type 0
StandBeside s = (length s.askers ≡ length s.channel.waiting) × (length s.owners ≡ length s.channel.waiting)

abbrev pub AskersStandBeside : Type 0
AskersStandBeside =
    (a b : Config) (seed_a seed_b : ℕ) (steps : List Step) → IsJointRun (new_stations a seed_a b seed_b) steps
    → (end : End) → StandBeside (state_of end (all_stepped steps (new_stations a seed_a b seed_b)))
