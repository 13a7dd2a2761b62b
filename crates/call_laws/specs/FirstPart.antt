-- A first part of a list, and what is read of a first part of messages that were written one after another (AGWPE
-- TCP/IP socket interface).
use Rattle.std.specs.Prelude.{◌≡◌, ℕ, ◌<◌, All, List, ◌++◌, length}
use Rattle.std.specs.List.{flat_map}
use Rattle.agwpe_port.specs.declared.message.AgwMessage.{AgwMessage}
use Rattle.agwpe_port.specs.Messages.{messages_in, spelling}

-- the list is this part, and something after it or nothing
abbrev pub IsFirstPart : {T : Type 0} → List T → List T → Type 0
IsFirstPart {T} part whole = (rest : List T) × (whole ≡ part ++ rest)

-- The header of a message has its two call fields, and tells the length of its body in 32 bits.
pub record HasHeader (message : AgwMessage) : Type 0 where
  pub from : length message.from ≡ 10
  pub to : length message.to ≡ 10
  pub body : length message.body < 0x100000000

-- The messages that are read of a first part are a first part of those that were written: of one whose body is over
-- 4096 octets, and of those after it, none is read.
abbrev pub FirstPartIsRead : Type 0
FirstPartIsRead =
    (messages : List AgwMessage) (stream : List ℕ) → All HasHeader messages
    → IsFirstPart stream (flat_map spelling messages) → IsFirstPart (messages_in stream) messages
