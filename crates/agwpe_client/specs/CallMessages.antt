-- The messages that a caller sends to its host (AGWPE TCP/IP socket interface): it registers, connects, sends data and
-- disconnects.
use Rattle.std.specs.Prelude.{ℕ, ◌+◌, ◌*◌, ◌/◌, ◌==◌, if◌then◌else◌, List, [], ◌∷◌, length, take, drop, replicate}
use Rattle.std.specs.List.{flat_map, range_with_len}
use Rattle.ax25_address.specs.Callsign.{Callsign}
use Rattle.agwpe_port.specs.declared.message.AgwMessage.{AgwMessage}
use Rattle.agwpe_port.specs.CallField.{call_field}
use Rattle.agwpe_port.specs.Messages.{spelling}

-- X: register a call
abbrev pub register_kind : ℕ
register_kind = 88

-- C: connect, and connected
abbrev pub connect_kind : ℕ
connect_kind = 67

-- v: connect by way of repeaters
abbrev pub connect_via_kind : ℕ
connect_via_kind = 118

-- D: data
abbrev pub data_kind : ℕ
data_kind = 68

-- d: disconnect, and disconnected
abbrev pub disconnect_kind : ℕ
disconnect_kind = 100

-- the PID of data without a layer 3 protocol
abbrev pub no_layer_3 : ℕ
no_layer_3 = 240

abbrev pub to_host : ℕ → ℕ → List ℕ → List ℕ → List ℕ → AgwMessage
to_host kind pid from to body = record { port = 0; kind = kind; pid = pid; from = from; to = to; body = body }

abbrev pub register_message : Callsign → AgwMessage
register_message own = to_host register_kind 0 (call_field own) (replicate 10 0) []

-- how many repeaters there are, and the field of each
abbrev pub via_body : List Callsign → List ℕ
via_body via = length via ∷ flat_map call_field via

-- the remote station is called, by way of the repeaters if there are any
abbrev pub connect_message : Callsign → Callsign → List Callsign → AgwMessage
connect_message own remote via =
    if length via == 0 then to_host connect_kind no_layer_3 (call_field own) (call_field remote) []
    else to_host connect_via_kind no_layer_3 (call_field own) (call_field remote) (via_body via)

abbrev pub data_message : Callsign → Callsign → List ℕ → AgwMessage
data_message own remote body = to_host data_kind no_layer_3 (call_field own) (call_field remote) body

abbrev pub disconnect_message : Callsign → Callsign → AgwMessage
disconnect_message own remote = to_host disconnect_kind 0 (call_field own) (call_field remote) []

-- piece k of a text: 256 octets, or what is left of them
abbrev pub piece_at : List ℕ → ℕ → List ℕ
piece_at text k = take 256 (drop (k * 256) text)

-- the text in pieces of 256 octets, of which the last may be shorter
abbrev pub text_octets : Callsign → Callsign → List ℕ → List ℕ
text_octets own remote text =
    flat_map (λ k. spelling (data_message own remote (piece_at text k))) (range_with_len 0 ((length text + 255) / 256))
