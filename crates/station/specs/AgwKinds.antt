-- The kinds of AGWPE messages that a station knows, each a letter.
use Rattle.std.specs.Prelude.{ℕ}

-- R: the version
abbrev pub version_kind : ℕ
version_kind = 82

-- G: the radio ports
abbrev pub ports_kind : ℕ
ports_kind = 71

-- g: what a radio port can do, and how it is set
abbrev pub capabilities_kind : ℕ
capabilities_kind = 103

-- X: register a call
abbrev pub register_kind : ℕ
register_kind = 88

-- x: end a registration
abbrev pub unregister_kind : ℕ
unregister_kind = 120

-- k: frames that are heard, on or off
abbrev pub toggle_kind : ℕ
toggle_kind = 107

-- m: frames that are heard and sent, shown in words, on or off
abbrev pub monitor_kind : ℕ
monitor_kind = 109

-- K: a frame, to be sent or heard
abbrev pub raw_kind : ℕ
raw_kind = 75

-- M: an unnumbered frame of information
abbrev pub unproto_kind : ℕ
unproto_kind = 77

-- V: the same by way of repeaters
abbrev pub unproto_via_kind : ℕ
unproto_via_kind = 86

-- C: connect, and connected
abbrev pub connect_kind : ℕ
connect_kind = 67

-- c: connect, with the PID of the data to come
abbrev pub connect_pid_kind : ℕ
connect_pid_kind = 99

-- v: connect by way of repeaters
abbrev pub connect_via_kind : ℕ
connect_via_kind = 118

-- D: data of a link
abbrev pub data_kind : ℕ
data_kind = 68

-- d: disconnect, and disconnected
abbrev pub disconnect_kind : ℕ
disconnect_kind = 100

-- H: the stations that were heard last
abbrev pub heard_kind : ℕ
heard_kind = 72

-- Y: how many packets of a link are not acknowledged
abbrev pub pending_kind : ℕ
pending_kind = 89

-- y: how many frames wait to be sent
abbrev pub waiting_kind : ℕ
waiting_kind = 121
