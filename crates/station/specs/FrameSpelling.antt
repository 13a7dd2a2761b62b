-- The octets that are written for a frame (AX.25 2.2 sections 3.1, 3.12 and 4.2), in a modulus.
use Rattle.std.specs.Prelude.{ℕ, ◌==◌, true, false, List, [], ◌∷◌, ◌++◌}
use Rattle.ax25_address.specs.AddressField.{field_octets}
use Rattle.ax25_address.specs.FramePath.{destination_bit, source_bit, repeater_count}
use Rattle.ax25_address.specs.declared.path.Path.{Path}
use Rattle.ax25_address.specs.declared.path.Hop.{Hop}
use Rattle.ax25_frames.specs.declared.frame.Frame.{Frame}
use Rattle.ax25_frames.specs.declared.frame.Modulus.{Modulus}
use Rattle.ax25_frames.specs.FrameOctets.{body_octets}

-- the fields of the repeaters, of which the last one has the end bit
abbrev pub repeater_fields : List Hop → List ℕ
repeater_fields [] = []
repeater_fields (hop ∷ []) = field_octets hop.call hop.done 3 true
repeater_fields (hop ∷ next ∷ hops) = field_octets hop.call hop.done 3 false ++ repeater_fields (next ∷ hops)

-- the address: destination, source and repeaters, with both reserved bits 1
abbrev pub path_octets : Path → List ℕ
path_octets path =
    field_octets path.dest (destination_bit path.role) 3 false
    ++ (field_octets path.source (source_bit path.role) 3 (repeater_count path == 0)
    ++ repeater_fields path.repeaters.items)

unfoldable pub frame_octets : Modulus → Frame → List ℕ
frame_octets modulus frame = path_octets frame.path ++ body_octets modulus frame.kind
