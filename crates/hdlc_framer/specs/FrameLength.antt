-- How long a frame may be, without its check sequence: two addresses and a control octet at the least (AX.25 2.2
-- section 3), 1024 octets at the most.
use Rattle.std.specs.Prelude.{ℕ, ◌<◌, ◌≤◌, ◌⊎◌, nat_le, Bool, ◌&&◌, List, length}

abbrev pub least_frame_length : ℕ
least_frame_length = 15

abbrev pub most_frame_length : ℕ
most_frame_length = 1024

-- octets that are as long as a frame
pub record HasFrameLength (octets : List ℕ) : Type 0 where
  pub least : least_frame_length ≤ length octets
  pub most : length octets ≤ most_frame_length

abbrev pub has_frame_length : List ℕ → Bool
has_frame_length octets = nat_le least_frame_length (length octets) && nat_le (length octets) most_frame_length

-- octets that are too few or too many
abbrev pub IsBadLength : List ℕ → Type 0
IsBadLength octets = (length octets < least_frame_length) ⊎ (most_frame_length < length octets)
