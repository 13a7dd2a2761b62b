-- The data of a block, bit by bit, as they are made of a frame. No public clause cites it.
use Rattle.std.specs.Prelude.{◌≡◌, ℕ, ◌<◌, ◌≤◌, Bool, List, [], ◌++◌, take, drop}
use Rattle.hdlc_framer.specs.Body.{flags}
use Rattle.hdlc_framer.specs.Stuffing.{flag}
use Rattle.fx25_blocks.specs.Blocks.{padded}
use Rattle.channel_access.specs.declared.stuffed_bits.StuffedBits.{StuffedBits}
use Rattle.channel_access.specs.StandsFor.{stuffed_rest}

-- So many bits of a flag, a frame and flags were put. What is left is the rest of the flag, of the frame, and of the flags
-- after it, of which so many bits were put.
pub record HasPut (octets : List ℕ) (line : List Bool) (place : ℕ) (frame : StuffedBits) (count : ℕ) : Type 0 where
  pub whole : take place line ++ (drop place flag ++ (stuffed_rest frame octets ++ drop count (flags 239)))
      ≡ padded octets 239
  pub few : count ≤ place
  pub over : 0 < count → (8 ≤ place) × (stuffed_rest frame octets ≡ [])
