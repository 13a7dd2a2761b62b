-- What the added lanes hear: frames that begin with a path and whose closing flag is in time.
use Rattle.std.specs.Prelude.{◌≡◌, ℕ, ◌+◌, ◌-◌, ◌<◌, ◌≤◌, Bool, true, ◌&&◌, not, ℤ, List, length}
use Rattle.hdlc_framer.specs.Frames.{EndsFrame}
use Rattle.frame_merge.specs.declared.candidate.Candidate.{Candidate}
use Rattle.tone_tracking.specs.Clock.{changes}
use Rattle.sensitive_receiver.specs.AddedCandidates.{HasPath}
use Rattle.hf_tracking.specs.Heard.{places_in}
use Rattle.hf_sensitive.specs.Lanes.{delay_of, is_read_at, lane_bits, tone_back}

-- The last 0 of a flag after its 1s, also by the plain count of places: two bits and one bit before the reading the line
-- has one tone, and at the reading the other.
abbrev pub is_in_time : List ℤ → ℕ → ℕ → Bool
is_in_time x lane place =
    changes (tone_back x lane place 8) (tone_back x lane place 0)
    && not (changes (tone_back x lane place 16) (tone_back x lane place 8))

-- A frame ends with the bit that a lane reads when a place is decided, and keeps both rules. Its end is the fourth of the
-- first sample after the window that was read.
pub record EndsAtPlace (x : List ℤ) (item : Candidate) (place : ℕ) : Type 0 where
  pub least : 32 ≤ item.offset
  pub most : item.offset < 59
  pub reads : is_read_at x item.offset place ≡ true
  pub end_of : item.end ≡ place + 8 - delay_of item.offset
  pub frame : EndsFrame (lane_bits x item.offset (place + 1)) item.octets
  pub path : HasPath item.octets
  pub in_time : is_in_time x item.offset place ≡ true

-- the item is what an added lane hears at a place that has a tone
pub record IsAdded (x : List ℤ) (item : Candidate) : Type 0 where
  pub place : ℕ
  pub decided : place < places_in (length x)
  pub ends : EndsAtPlace x item place
