-- What the pieces of a stream say (Chepponis and Karn, "The KISS TNC", 1987; command 12, ACKMODE, as BPQ32 and the
-- XKISS firmware have it).
use Rattle.std.specs.Prelude.{ℕ, ◌+◌, ◌*◌, ◌/◌, ◌%◌, ◌==◌, ◌&&◌, nat_lt, nat_le, if◌then◌else◌, List, [], ◌∷◌, length}
use Rattle.std.specs.Prelude.{Option, Some, None}
use Rattle.std.specs.Option.{option_to_list}
use Rattle.std.specs.List.{flat_map}
use Rattle.kiss_port.specs.declared.item.KissItem.{KissItem}
use Rattle.kiss_port.specs.declared.item.KissItem.TheVariants.{Frame, AckFrame, Set, Hardware, Return, TooLong, Other}
use Rattle.kiss_port.specs.Escapes.{unescaped}
use Rattle.kiss_port.specs.Pieces.{pieces}

-- the first octet of a piece, which is called the type: the port is its high four bits, the command its low four
abbrev pub kind_of : ℕ → ℕ → ℕ
kind_of port command = 16 * port + command

-- a parameter, if its value is there
abbrev pub setting : ℕ → ℕ → List ℕ → KissItem
setting port command [] = Other port command
setting port command (value ∷ octets) = if nat_le 1 command && nat_le command 5 then Set port command value
    else Other port command

-- the command that asks to be told when its frame has been sent
abbrev pub ack_command : ℕ
ack_command = 12

-- its frame, after the two octets by which the host knows it, if those are there
abbrev pub ack_frame : ℕ → List ℕ → KissItem
ack_frame port [] = Other port ack_command
ack_frame port (first ∷ []) = Other port ack_command
ack_frame port (first ∷ second ∷ octets) = AckFrame port (first ∷ second ∷ []) octets

abbrev pub by_command : ℕ → ℕ → List ℕ → KissItem
by_command port command octets =
    if command == 0 then Frame port octets else if command == 6 then Hardware port octets
    else if command == ack_command then ack_frame port octets else setting port command octets

-- the most octets after a type: a frame of 1024, and before it what command 12 has besides
abbrev pub most_octets : ℕ → ℕ
most_octets kind = if kind % 16 == ack_command then 1026 else 1024

-- the item of a type and the octets after it
abbrev pub item_by_type : ℕ → List ℕ → KissItem
item_by_type kind octets =
    if nat_lt (most_octets kind) (length octets) then TooLong (kind / 16) else
    if kind == 0xff then Return else by_command (kind / 16) (kind % 16) octets

-- what unescaped octets say; none say nothing
abbrev pub item_of : List ℕ → Option KissItem
item_of [] = None
item_of (kind ∷ octets) = Some (item_by_type kind octets)

-- the items of a stream, each where its piece ends
unfoldable pub items_in : List ℕ → List KissItem
items_in stream = flat_map (λ piece. option_to_list (item_of (unescaped piece))) (pieces stream)
