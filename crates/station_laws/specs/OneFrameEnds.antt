-- No more than one frame that a connection gives as it stands ends in a piece of 17 octets, the fewest that tell a frame of
-- 15 by KISS.
use Rattle.std.specs.Prelude.{ℕ, ◌≤◌, Bool, false, List, length, count_by}
use Rattle.hdlc_framer.specs.FrameLength.{has_frame_length}
use Rattle.kiss_port.specs.declared.item.KissItem.{KissItem}
use Rattle.kiss_port.specs.declared.item.KissItem.TheVariants.{Frame, AckFrame, Set, Hardware, Return, TooLong, Other}
use Rattle.station.specs.Host.{new_items, new_messages}

-- the item is as long as a frame
abbrev pub is_raw : KissItem → Bool
is_raw (Frame port octets) = has_frame_length octets
is_raw (AckFrame port mark octets) = has_frame_length octets
is_raw (Set port command value) = false
is_raw (Hardware port octets) = false
is_raw Return = false
is_raw (TooLong port) = false
is_raw (Other port command) = false

-- of the items of KISS, and of the messages of AGWPE, that end in a piece
pub record EndsOne (stream octets : List ℕ) : Type 0 where
  pub kiss : count_by is_raw (new_items stream octets) ≤ 1
  pub agw : length (new_messages stream octets) ≤ 1

abbrev pub OneFrameEnds : Type 0
OneFrameEnds = (stream octets : List ℕ) → length octets ≤ 17 → EndsOne stream octets
