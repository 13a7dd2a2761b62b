-- The bits of a unit by its parts, so that a transmission is a list of bits. What a unit is, `IsUnit` of fx25_blocks
-- says; laws of this crate say that these bits are one, and that there is no other.
use Rattle.std.specs.Prelude.{ℕ, zero, suc, ◌+◌, ◌-◌, ◌*◌, ◌==◌, nat_lt, Bool, List, [], ◌∷◌, ◌++◌, length}
use Rattle.std.specs.Prelude.{if◌then◌else◌, replicate, Option, Some, None}
use Rattle.std.specs.List.{fold}
use Rattle.hdlc_framer.specs.BitOrder.{number_of, sent_bits}
use Rattle.hdlc_framer.specs.Frames.{frame_bits}
use Rattle.hdlc_framer.specs.Stuffing.{flag}
use Rattle.reed_solomon.specs.Register.{generator_of, taken}
use Rattle.fx25_blocks.specs.Blocks.{bits_needed, data_bits}
use Rattle.fx25_blocks.specs.Tags.{check_count, data_count, tag_bits}

-- of the tags up to a number, the last one with so many check octets into which so many bits fit
unfoldable pub last_tag : ℕ → ℕ → ℕ → Option ℕ
last_tag checks needed zero = None
last_tag checks needed (suc n) =
    if check_count (suc n) == checks
    then (if nat_lt (8 * data_count (suc n)) needed then last_tag checks needed n else Some (suc n))
    else last_tag checks needed n

-- the octets whose bits these are, one after another
abbrev pub octets_of : List Bool → List ℕ
octets_of (a ∷ b ∷ c ∷ d ∷ e ∷ f ∷ g ∷ h ∷ bits) = number_of (a ∷ b ∷ c ∷ d ∷ e ∷ f ∷ g ∷ h ∷ []) ∷ octets_of bits
octets_of _ = []

-- So many check octets: what a division of the data octets, and of the zeros that a shortened code leaves out after
-- them, by the generator leaves over.
unfoldable pub check_octets : ℕ → List ℕ → List ℕ
check_octets count octets =
    fold (taken (generator_of 1 count)) (replicate count 0) (octets ++ replicate (255 - count - length octets) 0)

-- data and check octets of a tag
abbrev pub block_octets : ℕ → List ℕ → List ℕ
block_octets tag frame =
    let octets = octets_of (data_bits tag frame) in octets ++ check_octets (check_count tag) octets

-- the unit with a tag, or the plain frame between its flags
abbrev pub unit_with : Option ℕ → List ℕ → List Bool
unit_with (Some tag) frame = tag_bits tag ++ sent_bits (block_octets tag frame)
unit_with None frame = flag ++ (frame_bits frame ++ flag)

-- the bits of a frame with so many check octets: later tags with as many have fewer data octets
unfoldable pub unit : ℕ → List ℕ → List Bool
unit checks frame = unit_with (last_tag checks (bits_needed frame) 11) frame
