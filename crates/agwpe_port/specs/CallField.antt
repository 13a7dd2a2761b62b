-- A call in a field of a header (AGWPE TCP/IP socket interface, "The header").
use Rattle.std.specs.Prelude.{ℕ, ◌-◌, List, ◌++◌, length, replicate}
use Rattle.ax25_address.specs.Callsign.{Callsign}
use Rattle.ax25_address.specs.CallText.{text_of_call}

-- the text of a call, and NULs up to ten octets
abbrev pub call_field : Callsign → List ℕ
call_field call = text_of_call call ++ replicate (10 - length (text_of_call call)) 0
