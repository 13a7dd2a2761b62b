-- What a host program got of a link, in octets over D messages (AGWPE), set-up by set-up: it is told by the octets that
-- its connection took.
use Rattle.std.specs.Prelude.{ℕ, ◌==◌, ◌&&◌, Bool, if◌then◌else◌, List, [], ◌∷◌, ◌++◌, fold}
use Rattle.std.specs.Str.{bytes_eq}
use Rattle.ax25_address.specs.Callsign.{Callsign}
use Rattle.agwpe_port.specs.CallField.{call_field}
use Rattle.agwpe_port.specs.Messages.{messages_in}
use Rattle.agwpe_port.specs.declared.message.AgwMessage.{AgwMessage}
use Rattle.station.specs.AgwKinds.{connect_kind, data_kind}

-- a message of a kind from the remote call to the local one
abbrev pub is_to_owner : ℕ → (local remote : Callsign) → AgwMessage → Bool
is_to_owner kind local remote message =
    (bytes_eq message.from (call_field remote) && bytes_eq message.to (call_field local)) && message.kind == kind

-- octets more for the last of some set-ups
abbrev pub last_more : List ℕ → List ℕ → List (List ℕ) → List (List ℕ)
last_more more got [] = (got ++ more) ∷ []
last_more more got (next ∷ rest) = got ∷ last_more more next rest

abbrev pub more_for_last : List ℕ → List (List ℕ) → List (List ℕ)
more_for_last more [] = []
more_for_last more (got ∷ rest) = last_more more got rest

-- What one message makes of the octets of each set-up: C of the link begins one, and D of it is of the last.
abbrev pub after_message : (local remote : Callsign) → List (List ℕ) → AgwMessage → List (List ℕ)
after_message local remote gots message =
    if is_to_owner connect_kind local remote message then gots ++ [] ∷ [] else
    if is_to_owner data_kind local remote message then more_for_last message.body gots else gots

-- the octets of D in each set-up of the link of which the connection was told, by what it took
abbrev pub octets_got : (local remote : Callsign) → List ℕ → List (List ℕ)
octets_got local remote taken = fold (after_message local remote) [] (messages_in taken)
