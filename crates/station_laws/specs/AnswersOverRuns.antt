-- What a KISS host is told of its frames over a whole run (command 12, ACKMODE), from when it joins.
use Rattle.std.specs.Prelude.{◌≡◌, ℕ, ◌==◌, ◌&&◌, if◌then◌else◌, List, [], ◌∷◌, ◌++◌, length, Option, Some, None}
use Rattle.std.specs.List.{flat_map}
use Rattle.hdlc_framer.specs.FrameLength.{has_frame_length}
use Rattle.kiss_port.specs.declared.item.KissItem.{KissItem}
use Rattle.kiss_port.specs.declared.item.KissItem.TheVariants.{Frame, AckFrame, Set, Hardware, Return, TooLong, Other}
use Rattle.link_world.specs.declared.end.End.{End}
use Rattle.link_world.specs.declared.end.End.TheVariants.{A, B}
use Rattle.station.specs.declared.asker.Asker.{Asker}
use Rattle.station.specs.declared.config.Config.{Config}
use Rattle.station.specs.declared.host_event.HostEvent.TheVariants.{Joined, Bytes, Left}
use Rattle.station.specs.declared.host_event.PortKind.{PortKind}
use Rattle.station.specs.declared.host_event.PortKind.TheVariants.{Kiss, Agw}
use Rattle.station.specs.declared.host_out.Piece.{Piece}
use Rattle.station.specs.Askers.{answer_of, speaks_kiss}
use Rattle.station.specs.Connections.{Connection, connection_of}
use Rattle.station.specs.Host.{new_items, taking}
use Rattle.station.specs.Kiss.{heeding}
use Rattle.station.specs.State.{StationState}
use Rattle.station.specs.Turn.{Turn, begin, may_enter}
use Rattle.station_laws.specs.FramesTold.{answer_for, answers_to, asker_in}
use Rattle.station_laws.specs.JointRun.{Input, IsJointRun, Step, all_stepped, new_stations, state_of}
use Rattle.station_laws.specs.JointRun.Input.{FromHost, OffAir, OfClock}

-- ---- the frames that ask

-- the answer for a frame that asks, if it joins the transmit queue
abbrev pub asks_item : ℕ → KissItem → Turn → List Piece
asks_item id (Frame port octets) turn = []
asks_item id (AckFrame port mark octets) turn =
    if (port == 0) && (has_frame_length octets && may_enter (Some id) turn.now)
    then answer_of (record { id = id; mark = mark }) ∷ [] else []
asks_item id (Set port command value) turn = []
asks_item id (Hardware port octets) turn = []
asks_item id Return turn = []
asks_item id (TooLong port) turn = []
asks_item id (Other port command) turn = []

-- for those among items one after another
abbrev pub asks_items : ℕ → List KissItem → Turn → List Piece
asks_items id [] turn = []
asks_items id (item ∷ items) turn = asks_item id item turn ++ asks_items id items (heeding id item turn)

-- that end in octets of a connection
abbrev pub asks_by : PortKind → Connection → List ℕ → Turn → List Piece
asks_by Kiss connection octets turn =
    asks_items connection.id (new_items connection.stream octets) (taking connection.id octets turn)
asks_by Agw connection octets turn = []

abbrev pub asks_of : Option Connection → List ℕ → Turn → List Piece
asks_of None octets turn = []
asks_of (Some connection) octets turn = asks_by connection.kind connection octets turn

-- for the frames of a connection that ask in a step
abbrev pub asked_in : ℕ → Input → Turn → List Piece
asked_in id (FromHost (Joined host kind)) turn = []
asked_in id (FromHost (Bytes host octets)) turn =
    if host == id then asks_of (connection_of host turn.now.connections) octets turn else []
asked_in id (FromHost (Left host)) turn = []
asked_in id (OffAir octets) turn = []
asked_in id (OfClock busy) turn = []

-- for those that wait to be sent
abbrev pub waiting_answers : ℕ → List (Option Asker) → List Piece
waiting_answers id askers = flat_map (answer_for id) askers

-- ---- over a run

-- what has become of a connection of KISS since it joined
pub record Account : Type 0 where
  -- the answers for its frames that asked and joined the transmit queue
  pub asked : List Piece
  -- for those frames of it that asked and that ticks named as sent
  pub sent : List Piece
  -- the answers that it was sent
  pub told : List Piece

abbrev pub new_account : Account
new_account = record { asked = []; sent = []; told = [] }

-- an account ends when the connection is there no more
abbrev pub after_step : ℕ → Step → Account → Account
after_step id step account =
    if speaks_kiss id step.after.now.connections
    then record {
      asked = account.asked ++ asked_in id step.input (begin step.before);
      sent = account.sent ++ answer_for id (asker_in step.input (begin step.before));
      told = account.told ++ answers_to id step.after.out.pieces;
    }
    else new_account

-- the first if the step is of this station
abbrev pub if_at : {T : Type 0} → (end station : End) → T → T → T
if_at A A here other = here
if_at A B here other = other
if_at B A here other = other
if_at B B here other = here

abbrev pub account_at : End → ℕ → List Step → Account → Account
account_at end id [] account = account
account_at end id (step ∷ steps) account =
    account_at end id steps (if_at end step.station (after_step id step account) account)

-- The answers that a connection was sent are those for its frames that asked and were named as sent, in the order in
-- which it asked, and the others of its frames that asked wait.
pub record IsAnswered (id : ℕ) (s : StationState) (account : Account) : Type 0 where
  pub told : account.told ≡ account.sent
  pub asked : account.asked ≡ account.sent ++ waiting_answers id s.askers

-- at each station after each joint run
abbrev pub AnswersOverRuns : Type 0
AnswersOverRuns =
    (a b : Config) (seed_a seed_b : ℕ) (steps : List Step) → let start = new_stations a seed_a b seed_b in
    IsJointRun start steps → (end : End) (id : ℕ)
    → IsAnswered id (state_of end (all_stepped steps start)) (account_at end id steps new_account)
