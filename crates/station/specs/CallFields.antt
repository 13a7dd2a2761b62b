-- A call in a field of an AGWPE header: its text, ended by NUL or full.
use Rattle.std.specs.Prelude.{ℕ, ◌==◌, nat_lt, nat_le, Bool, ◌&&◌, ◌||◌, if◌then◌else◌, List, length, take, find}
use Rattle.std.specs.Prelude.{Option, Some, None, option_map}
use Rattle.std.specs.List.{range_with_len, list_all, position_or_len}
use Rattle.std.specs.Str.{bytes_eq}
use Rattle.ax25_address.specs.Callsign.{Callsign}
use Rattle.ax25_address.specs.CallText.{name_part, ssid_part, ssid_suffix}
use Rattle.agwpe_port.specs.CallField.{call_field}

-- the octets before the first NUL, or all of them
abbrev pub field_text : List ℕ → List ℕ
field_text field = take (position_or_len (λ octet. octet == 0) field) field

-- A to Z and 0 to 9
abbrev pub is_call_character : ℕ → Bool
is_call_character c = (nat_le 65 c && nat_le c 90) || (nat_le 48 c && nat_le c 57)

-- one to six of them
abbrev pub is_name : List ℕ → Bool
is_name name = nat_lt 0 (length name) && (nat_le (length name) 6 && list_all is_call_character name)

-- nothing tells the SSID 0, and a dash and a number from 0 to 15 tell that number
abbrev pub told_ssid : List ℕ → Option ℕ
told_ssid tail =
    if length tail == 0 then Some 0 else find (λ ssid. bytes_eq tail (ssid_suffix ssid)) (range_with_len 0 16)

abbrev pub named : List ℕ → ℕ → Callsign
named name ssid = record { name = name; ssid = ssid }

-- The call of a text: `CALL`, or `CALL-n`. Small letters are read as capitals.
unfoldable pub call_of_text : List ℕ → Option Callsign
call_of_text text =
    if is_name (name_part text) then option_map (named (name_part text)) (told_ssid (ssid_part text)) else None

-- the call of a field
abbrev pub call_in : List ℕ → Option Callsign
call_in field = call_of_text (field_text field)

-- a field as it is sent back: a call in its one text, and anything else as it came
abbrev pub field_of : List ℕ → Option Callsign → List ℕ
field_of field None = field
field_of field (Some call) = call_field call

abbrev pub sent_back : List ℕ → List ℕ
sent_back field = field_of field (call_in field)
