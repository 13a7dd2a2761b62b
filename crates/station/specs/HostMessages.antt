-- What a host program is told, as AGWPE messages. A message to a host has port 0, and PID 0 unless it carries data; a
-- call field that is not named is empty.
use Rattle.std.specs.Prelude.{ℕ, Bool, if◌then◌else◌, List, [], ◌∷◌, ◌++◌, replicate, codes}
use Rattle.ax25_address.specs.Callsign.{Callsign}
use Rattle.ax25_address.specs.CallText.{text_of_call}
use Rattle.agwpe_port.specs.declared.message.AgwMessage.{AgwMessage}
use Rattle.agwpe_port.specs.CallField.{call_field}
use Rattle.link_machine.specs.declared.acts.Told.{Told}
use Rattle.link_machine.specs.declared.acts.Told.TheVariants.{Opened, Given, Ended}
use Rattle.station.specs.AgwKinds.{connect_kind, data_kind, disconnect_kind, raw_kind}

abbrev pub to_host : ℕ → ℕ → List ℕ → List ℕ → List ℕ → AgwMessage
to_host kind pid from to body = record { port = 0; kind = kind; pid = pid; from = from; to = to; body = body }

-- an empty call field
abbrev pub no_call : List ℕ
no_call = replicate 10 0

-- who called
abbrev pub connected_words : Bool → List ℕ
connected_words ours = if ours then codes "*** CONNECTED With Station " else codes "*** CONNECTED To Station "

-- the texts end with CR, and no NUL follows
abbrev pub connected_text : Bool → List ℕ → List ℕ
connected_text ours remote = connected_words ours ++ (remote ++ 13 ∷ [])

abbrev pub disconnected_text : List ℕ → List ℕ
disconnected_text remote = codes "*** DISCONNECTED From Station " ++ (remote ++ 13 ∷ [])

-- what the owner of the link between two calls is told
abbrev pub message_of_told : Callsign → Callsign → Told → AgwMessage
message_of_told local remote (Opened ours) =
    to_host connect_kind 0 (call_field remote) (call_field local) (connected_text ours (text_of_call remote))
message_of_told local remote (Given packet) =
    to_host data_kind packet.pid (call_field remote) (call_field local) packet.octets
message_of_told local remote (Ended why) =
    to_host disconnect_kind 0 (call_field remote) (call_field local) (disconnected_text (text_of_call remote))

-- a frame that is heard, after an octet 00, from its source to its destination
abbrev pub raw_message : List ℕ → List ℕ → List ℕ → AgwMessage
raw_message from to octets = to_host raw_kind 0 from to (0 ∷ octets)
