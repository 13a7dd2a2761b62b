-- A host program of the bench: what it knows of its set-ups, by what it does and is told. A set-up runs from the moment
-- at which it is told C until it is told d (AGWPE).
use Rattle.std.specs.Prelude.{ℕ, ◌==◌, nat_lt, ◌&&◌, Bool, true, false, if◌then◌else◌, List, [], ◌∷◌, ◌++◌, length}
use Rattle.std.specs.Prelude.{take, drop, codes, Option, Some, None, option_map}
use Rattle.std.specs.Option.{option_to_list}
use Rattle.ax25_address.specs.Callsign.{Callsign}
use Rattle.agwpe_port.specs.CallField.{call_field}
use Rattle.agwpe_port.specs.Messages.{spelling}
use Rattle.agwpe_port.specs.declared.message.AgwMessage.{AgwMessage}
use Rattle.link_world.specs.declared.end.End.{End}
use Rattle.link_world.specs.declared.end.End.TheVariants.{A, B}
use Rattle.link_world.specs.World.{other}
use Rattle.station.specs.AgwKinds.{register_kind, connect_kind, data_kind, disconnect_kind}
use Rattle.station.specs.HostMessages.{no_call}
use Rattle.channel_bench.specs.declared.report.SetUp.{SetUp}

pub record ProgramState : Type 0 where
  -- the set-ups that have ended, in order, and the one that runs
  pub ended : List SetUp
  pub running : Option SetUp
  -- it has sent d since it was last told C
  pub asked : Bool
  -- it was told d without having sent one, and is to send C again
  pub calls : Bool
  -- it was told d since A last sent one
  pub told : Bool

abbrev pub new_program : ProgramState
new_program = record { ended = []; running = None; asked = false; calls = false; told = false }

-- all its set-ups, in order
abbrev pub set_ups_of : ProgramState → List SetUp
set_ups_of p = p.ended ++ option_to_list p.running

-- ---- what it is told

-- a set-up begins, in which nothing is given and nothing got
abbrev pub new_set_up : SetUp
new_set_up = record { given = []; got = [] }

abbrev pub opening : ProgramState → ProgramState
opening p = record p { ended = set_ups_of p; running = Some new_set_up; asked = false }

-- data comes in the set-up that runs
abbrev pub with_got : List ℕ → SetUp → SetUp
with_got octets set_up = record set_up { got = set_up.got ++ octets }

abbrev pub getting : List ℕ → ProgramState → ProgramState
getting octets p = record p { running = option_map (with_got octets) p.running }

-- it has ended
abbrev pub closing : ProgramState → ProgramState
closing p =
    record p { ended = set_ups_of p; running = None; calls = if p.asked then p.calls else true; told = true }

-- C, D and d; nothing else is heeded
abbrev pub told : AgwMessage → ProgramState → ProgramState
told message p =
    if message.kind == connect_kind then opening p else
    if message.kind == data_kind then getting message.body p else
    if message.kind == disconnect_kind then closing p else p

-- messages one after another
abbrev pub told_all : List AgwMessage → ProgramState → ProgramState
told_all [] p = p
told_all (message ∷ messages) p = told_all messages (told message p)

-- ---- what it gives

-- the most octets of one message of data
abbrev pub most_octets : ℕ
most_octets = 256

-- what comes next of its text, or nothing if no set-up runs or all of it is given
abbrev pub piece_in : List ℕ → SetUp → Option (List ℕ)
piece_in text set_up =
    if nat_lt (length set_up.given) (length text) then Some (take most_octets (drop (length set_up.given) text))
    else None

abbrev pub next_piece : List ℕ → Option SetUp → Option (List ℕ)
next_piece text None = None
next_piece text (Some set_up) = piece_in text set_up

abbrev pub with_given : List ℕ → SetUp → SetUp
with_given octets set_up = record set_up { given = set_up.given ++ octets }

abbrev pub giving : List ℕ → ProgramState → ProgramState
giving octets p = record p { running = option_map (with_given octets) p.running }

-- all of so many octets is given, and as many are got
abbrev pub has_all_in : ℕ → Option SetUp → Bool
has_all_in count None = false
has_all_in count (Some set_up) = (length set_up.given == count) && (length set_up.got == count)

abbrev pub has_all : ℕ → ProgramState → Bool
has_all count p = has_all_in count p.running

-- ---- when set-ups end and begin

-- it sends d
abbrev pub asking : ProgramState → ProgramState
asking p = record p { asked = true; told = false }

-- its partner sends d
abbrev pub waiting : ProgramState → ProgramState
waiting p = record p { told = false }

-- it sends C again
abbrev pub calling : ProgramState → ProgramState
calling p = record p { calls = false }

-- ---- its messages

-- the calls of the two stations
abbrev pub call_at : End → Callsign
call_at A = record { name = codes "AAAA"; ssid = 0 }
call_at B = record { name = codes "BBBB"; ssid = 0 }

abbrev pub request : ℕ → List ℕ → List ℕ → List ℕ → AgwMessage
request kind from to body = record { port = 0; kind = kind; pid = 0; from = from; to = to; body = body }

abbrev pub request_between : ℕ → End → List ℕ → AgwMessage
request_between kind end body = request kind (call_field (call_at end)) (call_field (call_at (other end))) body

-- X for the call of its station, C to the other station, D with data for it, and d
abbrev pub register_octets : End → List ℕ
register_octets end = spelling (request register_kind (call_field (call_at end)) no_call [])

abbrev pub connect_octets : End → List ℕ
connect_octets end = spelling (request_between connect_kind end [])

abbrev pub data_octets : End → List ℕ → List ℕ
data_octets end body = spelling (request_between data_kind end body)

abbrev pub disconnect_octets : End → List ℕ
disconnect_octets end = spelling (request_between disconnect_kind end [])

-- full duplex is set by KISS: command 5 with value 1, between two FEND
abbrev pub full_duplex_octets : List ℕ
full_duplex_octets = 0xc0 ∷ 5 ∷ 1 ∷ 0xc0 ∷ []
