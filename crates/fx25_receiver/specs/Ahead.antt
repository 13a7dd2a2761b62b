-- What is known while some lanes are ahead of the others: these have taken all of some samples, and nothing ends with what
-- they took. No public clause cites it.
use Rattle.std.specs.Prelude.{◌≡◌, ℕ, ◌+◌, ◌<◌, ℤ, List, ◌++◌, Bool, true, length, slice_index_or, take, if◌then◌else◌}
use Rattle.hdlc_framer.specs.BitOrder.{octet_bits}
use Rattle.fx25_blocks.specs.UnsureBlocks.{EndsUnsureBlock}
use Rattle.nrzi_bits.specs.Line.{bits_of}
use Rattle.tone_table.specs.declared.tone.Tone.{Tone}
use Rattle.fx25_receiver.specs.declared.heard.Heard.{Heard}
use Rattle.fx25_receiver.specs.Heard.{EndsWithBits, IsHeard}
use Rattle.fx25_receiver.specs.Held.{HasHeard, Held, HeldLane, LaneHasTaken}

-- no block ends with any of the first so many bits of an octet, however sure the bits are
abbrev pub NoBlockEnds : ℕ → List Bool → ℕ → Type 0
NoBlockEnds count bits octet = (k tag : ℕ) (numbers frame : List ℕ) (over : ℕ) → k < count
    → ¬ EndsUnsureBlock (bits ++ take (k + 1) (octet_bits octet)) numbers tag frame over

-- nothing ends with any of eight more tones, however sure they are
abbrev pub NothingEndsInTones : List Tone → List Tone → Type 0
NothingEndsInTones tones more = (k : ℕ) (numbers : List ℕ) (item : Heard) → k < 8
    → ¬ EndsWithBits (bits_of (tones ++ take (k + 1) more)) numbers item

-- what the lane of an offset has taken: the first samples if it waits, and the whole of them if it is ahead
abbrev pub taken_by : List Bool → ℕ → List ℤ → List ℤ → List ℤ
taken_by waiting offset x whole = if slice_index_or waiting offset true then x else whole

-- each lane has taken the windows at its offset that lie in what it has taken
abbrev pub LanesStandAhead : List HeldLane → List Bool → List ℤ → List ℤ → Type 0
LanesStandAhead lanes waiting x whole = (offset : ℕ) (d : HeldLane) → offset < 8
    → LaneHasTaken (slice_index_or lanes offset d) offset (taken_by waiting offset x whole)

-- lanes, a count and what is kept, after the first samples were taken and these items given, while some lanes are ahead
pub record AreAhead (lanes : List HeldLane) (position : ℕ) (kept : List Heard) (waiting : List Bool) (x whole : List ℤ)
    (given : List Heard) : Type 0 where
  pub count : position ≡ length x
  pub lanes_stand : LanesStandAhead lanes waiting x whole
  -- what is heard past the first samples is heard by a lane that waits
  pub quiet : (item : Heard) → IsHeard whole item → length x < item.end → slice_index_or waiting item.lane true ≡ true
  pub has_heard : HasHeard kept x given

-- the receiver has taken the first samples, and is ahead so
abbrev pub IsAhead : Held → List Bool → List ℤ → List ℤ → List Heard → Type 0
IsAhead held waiting x whole given = AreAhead held.lanes held.position held.kept waiting x whole given
